-- Exclusive or of numbers, and of lists by places. Assumes nothing.
use Rattle.std.proofs.Common.{◌≡◌, ℕ, zero, suc, ◌<◌, List, [], ◌∷◌, length, get_or, sym, refl, ap, ◌∙◌, ap₂, le_of_suc-le-suc, not-suc-le-zero, arith}
use lib.Bits.{bit_xor, xor_assoc, xor_comm, xor_self, xor_zero_r, xor_lt}
use Rattle.std.proofs.lemmas.List.{ext_get_or, nil_from_length}
use Rattle.octets.specs.Bytes.{Bytes, Small, ◌⊕◌}

pub xor_pairs : (a b c d : ℕ) → bit_xor (bit_xor a b) (bit_xor c d) ≡ bit_xor (bit_xor a c) (bit_xor b d)
xor_pairs a b c d =
    xor_assoc a b (bit_xor c d)
    ∙ ap (bit_xor a) (sym (xor_assoc b c d) ∙ ap (λ (x : ℕ). bit_xor x d) (xor_comm b c) ∙ xor_assoc c b d)
    ∙ sym (xor_assoc a c (bit_xor b d))

pub xor_undo : (a b : ℕ) → bit_xor (bit_xor a b) b ≡ a
xor_undo a b = xor_assoc a b b ∙ ap (bit_xor a) (xor_self b) ∙ xor_zero_r a

pub xor_cancel : (a b c : ℕ) → bit_xor a c ≡ bit_xor b c → a ≡ b
xor_cancel a b c e = sym (xor_undo a c) ∙ ap (λ (x : ℕ). bit_xor x c) e ∙ xor_undo b c

pub length-⊕ : (xs ys : List ℕ) → length xs ≡ length ys → length (xs ⊕ ys) ≡ length xs
length-⊕ [] ys e = refl
length-⊕ (x ∷ xs) [] e = sym e
length-⊕ (x ∷ xs) (y ∷ ys) e = let h = length-⊕ xs ys (omega arith) in omega arith

pub get_or-⊕ : (xs ys : List ℕ) (i : ℕ) → i < length xs → i < length ys → get_or (xs ⊕ ys) i 0 ≡ bit_xor (get_or xs i 0) (get_or ys i 0)
get_or-⊕ [] ys i h k = absurd (not-suc-le-zero h)
get_or-⊕ (x ∷ xs) [] i h k = absurd (not-suc-le-zero k)
get_or-⊕ (x ∷ xs) (y ∷ ys) zero h k = refl
get_or-⊕ (x ∷ xs) (y ∷ ys) (suc i) h k = get_or-⊕ xs ys i (le_of_suc-le-suc h) (le_of_suc-le-suc k)

-- a list that has the exclusive or at each place
pub by_places : (n : ℕ) (xs ys zs : List ℕ) → length xs ≡ n → length ys ≡ n → length zs ≡ n → ((k : ℕ) → k < n → get_or zs k 0 ≡ bit_xor (get_or xs k 0) (get_or ys k 0)) → zs ≡ xs ⊕ ys
by_places n xs ys zs hx hy hz each =
    let long = length-⊕ xs ys (omega arith) in
    ext_get_or 0 zs (xs ⊕ ys) (omega arith) (λ k h. each k (omega arith) ∙ sym (get_or-⊕ xs ys k (omega arith) (omega arith)))

Small-⊕ : (xs ys : List ℕ) → Small xs → Small ys → Small (xs ⊕ ys)
Small-⊕ [] ys hx hy i = hx i
Small-⊕ (x ∷ xs) [] hx hy i = hy i
Small-⊕ (x ∷ xs) (y ∷ ys) hx hy zero = xor_lt 8 x y (hx 0) (hy 0)
Small-⊕ (x ∷ xs) (y ∷ ys) hx hy (suc i) = Small-⊕ xs ys (λ j. hx (suc j)) (λ j. hy (suc j)) i

pub Bytes-⊕ : {n : ℕ} {xs ys : List ℕ} → Bytes n xs → Bytes n ys → Bytes n (xs ⊕ ys)
Bytes-⊕ hx hy = record { long = length-⊕ _ _ (hx.long ∙ sym hy.long) ∙ hx.long; small = Small-⊕ _ _ hx.small hy.small }

undo : (xs ys : List ℕ) → length xs ≡ length ys → xs ⊕ ys ⊕ ys ≡ xs
undo [] ys e = refl
undo (x ∷ xs) [] e = sym (nil_from_length (x ∷ xs) e)
undo (x ∷ xs) (y ∷ ys) e = ap₂ ◌∷◌ (xor_undo x y) (undo xs ys (omega arith))

pub ⊕_undo : {n : ℕ} {xs ys : List ℕ} → Bytes n xs → Bytes n ys → xs ⊕ ys ⊕ ys ≡ xs
⊕_undo hx hy = undo _ _ (hx.long ∙ sym hy.long)

-- what is the same under one list is the same
pub ⊕_cancel : {n : ℕ} {xs ys zs : List ℕ} → Bytes n xs → Bytes n ys → Bytes n zs → xs ⊕ ys ≡ xs ⊕ zs → ys ≡ zs
⊕_cancel {n} {xs} {ys} {zs} hx hy hz e =
    ext_get_or 0 ys zs (hy.long ∙ sym hz.long)
    (λ k h.
    let lx : k < length xs = omega (arith, hx.long, hy.long) in
    let lz : k < length zs = omega (arith, hy.long, hz.long) in
    xor_cancel (get_or ys k 0) (get_or zs k 0) (get_or xs k 0)
    (xor_comm (get_or ys k 0) (get_or xs k 0) ∙ sym (get_or-⊕ xs ys k lx h) ∙ ap (λ l. get_or l k 0) e ∙ get_or-⊕ xs zs k lx lz ∙ xor_comm (get_or xs k 0) (get_or zs k 0)))
