-- Two numbers of 64 bits as one of 128, byte by byte. Assumes nothing.
use Rattle.std.proofs.Common.{◌≡◌, ℕ, ◌+◌, ◌*◌, ◌%◌, ◌<◌, ◌^◌, List, ◌∷◌, refl, ap₂, arith}
use Rattle.std.specs.Int.{to_be_bytes, w128}
use Rattle.sealing_c.specs.Calls.{sixteen_bytes}

more : {x y : ℕ} {xs ys : List ℕ} → x ≡ y → xs ≡ ys → x ∷ xs ≡ y ∷ ys
more e es = ap₂ (λ b bs. b ∷ bs) e es

pub two_as_one : (h l : ℕ) → h < 2 ^ 64 → l < 2 ^ 64 → to_be_bytes w128 ((h * 2 ^ 64) % 2 ^ 128 + l) ≡ sixteen_bytes h l
unfolding sixteen_bytes
two_as_one h l hh hl =
    let split : (h * 2 ^ 64) % 2 ^ 128 ≡ h * 2 ^ 64 = omega arith in
    more (omega (arith, split)) (more (omega (arith, split)) (more (omega (arith, split)) (more (omega (arith, split)) (more (omega (arith, split)) (more (omega (arith, split)) (more (omega (arith, split)) (more (omega (arith, split)) (more (omega (arith, split)) (more (omega (arith, split)) (more (omega (arith, split)) (more (omega (arith, split)) (more (omega (arith, split)) (more (omega (arith, split)) (more (omega (arith, split)) (more (omega (arith, split)) refl)))))))))))))))
