-- Lists of n bytes, made and changed. Assumes nothing.
use Rattle.std.proofs.Common.{ℕ, zero, suc, ◌<◌, List, [], ◌∷◌, map, set, replicate, ◌∙◌, ⊎_elim, arith, length-set}
use lib.ListN.{length-replicate}
use Rattle.std.proofs.lemmas.List.FromFn.{length-map-range_with_len, get_or-map-range_with_len}
use Rattle.std.proofs.lemmas.List.{get_or_past}
use Rattle.std.proofs.lemmas.Bool.{cases_lt}
use Rattle.std.specs.List.{range_with_len}
use Rattle.octets.specs.Bytes.{Bytes, Small}

small_zeros : (n : ℕ) → Small (replicate n 0)
small_zeros zero i = omega arith
small_zeros (suc n) zero = omega arith
small_zeros (suc n) (suc i) = small_zeros n i

pub bytes_zeros : (n : ℕ) → Bytes n (replicate n 0)
bytes_zeros n = record { long = length-replicate n 0; small = small_zeros n }

small_set : (xs : List ℕ) (i b : ℕ) → Small xs → b < 256 → Small (set xs i b)
small_set [] i b h lt k = h k
small_set (x ∷ xs) zero b h lt zero = lt
small_set (x ∷ xs) zero b h lt (suc k) = h (suc k)
small_set (x ∷ xs) (suc i) b h lt zero = h 0
small_set (x ∷ xs) (suc i) b h lt (suc k) = small_set xs i b (λ j. h (suc j)) lt k

pub bytes_set : {n : ℕ} {xs : List ℕ} → Bytes n xs → (i b : ℕ) → b < 256 → Bytes n (set xs i b)
bytes_set h i b lt = record { long = length-set _ i b ∙ h.long; small = small_set _ i b h.small lt }

-- n bytes given by their places
pub bytes_by_places : (n : ℕ) (f : ℕ → ℕ) → ((i : ℕ) → i < n → f i < 256) → Bytes n (map f (range_with_len 0 n))
bytes_by_places n f small = record {
  long = length-map-range_with_len f 0 n;
  small = λ i.
      ⊎_elim
      (λ lt. rw (get_or-map-range_with_len f 0 n i i 0 lt (omega arith)) (small i lt))
      (λ le. let long = length-map-range_with_len f 0 n in rw (get_or_past (map f (range_with_len 0 n)) i 0 (omega arith)) (omega arith))
      (cases_lt i n);
}
