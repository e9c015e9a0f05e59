-- Tables of sixteen rows, by the halves of a byte. Assumes nothing.
use Rattle.std.proofs.Common.{◌≡◌, ℕ, ◌+◌, ◌*◌, ◌/◌, ◌<◌, List, [], map, get_or, ap, ◌∙◌, arith}
use lib.Bits.{bit_and, and_mask}
use Rattle.std.proofs.lemmas.List.FromFn.{get_or-map-range_with_len}
use Rattle.std.specs.List.{range_with_len}

-- sixteen rows of sixteen values
abbrev pub rows : (ℕ → ℕ) → List (List ℕ)
rows f = map (λ h. map (λ l. f (16 * h + l)) (range_with_len 0 16)) (range_with_len 0 16)

pub looked_up : (f : ℕ → ℕ) (b h l : ℕ) → b < 256 → h ≡ b / 16 → l ≡ bit_and b 15 → get_or (get_or (rows f) h []) l 0 ≡ f b
looked_up f b h l small high low =
    let row = get_or-map-range_with_len (λ h. map (λ l. f (16 * h + l)) (range_with_len 0 16)) 0 16 h h [] (omega arith) (omega arith) in
    let rest = low ∙ and_mask b 4 in
    ap (λ r. get_or r l 0) row ∙ get_or-map-range_with_len (λ l. f (16 * h + l)) 0 16 l l 0 (omega arith) (omega arith) ∙ ap f (omega arith)
