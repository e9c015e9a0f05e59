-- A lawful text that is altered a little is lawful no more. Assumes nothing.
use Rattle.std.proofs.Common.{◌≡◌, ℕ, ◌+◌, ◌<◌, ◌≤◌, ◌⊎◌, List, length, get_or, take, drop, sym, ap, ◌∙◌, inl, inr, ⊎_elim, arith, length-take}
use Rattle.std.proofs.lemmas.List.{get_or-take, get_or_past, drop-drop}
use Rattle.std.proofs.lemmas.Bool.{cases_lt}
use Rattle.octets.specs.Bytes.{Small}
use Rattle.octets.specs.Hex.{is_digit, Digits}
use Rattle.octets.proofs.Each.{every-at}
use Rattle.octets.proofs.Places.{same_before, same_from, same_whole}
use Rattle.user_permit.specs.Alteration.{Altered}
use Rattle.user_permit.specs.Lawful.{Lawful, checksum_of}
use Rattle.user_permit.proofs.Agreement.{same_checksum}
use Rattle.user_permit.proofs.Checksum.{four_neighbours}
use Rattle.user_permit.proofs.Sets.{in_parts, digit_ascii}

small_digits : (t : List ℕ) → Digits t → Small t
small_digits t h i =
    ⊎_elim (λ lt. omega (arith, digit_ascii (get_or t i 0) (every-at is_digit t i lt h))) (λ le. rw (get_or_past t i 0 le) (omega arith)) (cases_lt i (length t))

module _ (t u : List ℕ) (lawful-t : Lawful t) (lawful-u : Lawful u) where
  long : length u ≡ length t
  long = lawful-u.0 ∙ sym lawful-t.0

  -- the checksum is the same, so the digits are
  same_in_digits : (k : ℕ) → k + 4 ≤ 32 → ((i : ℕ) → (i < k) ⊎ (k + 4 ≤ i) → get_or u i 0 ≡ get_or t i 0) → u ≡ t
  same_in_digits k low agree =
      let rest = same_from 32 u t long (λ i h. agree i (inr (omega arith))) in
      let sums = sym lawful-u.2 ∙ ap (take 8) rest ∙ lawful-t.2 in
      let small-t = small_digits (take 32 t) (in_parts t lawful-t.1).encrypted in
      let small-u = small_digits (take 32 u) (in_parts u lawful-u.1).encrypted in
      let lt = length-take 32 t in
      let lu = length-take 32 u in
      let agree-front : (i : ℕ) → (i < k) ⊎ (k + 4 ≤ i) → get_or (take 32 u) i 0 ≡ get_or (take 32 t) i 0 =
      λ i out. ⊎_elim
      (λ in'. get_or-take 32 u i 0 in' ∙ agree i out ∙ sym (get_or-take 32 t i 0 in'))
      (λ past. get_or_past (take 32 u) i 0 (omega arith) ∙ sym (get_or_past (take 32 t) i 0 (omega arith)))
      (cases_lt i 32) in
      let front = four_neighbours (take 32 u) (take 32 t) k (omega arith) (omega (arith, lawful-u.0)) small-u small-t agree-front (same_checksum _ _ small-u small-t sums) in
      same_whole 32 u t front rest

  -- the digits are the same, so the checksum is
  same_in_checksum : ((i : ℕ) → (i < 32) ⊎ (32 + 8 ≤ i) → get_or u i 0 ≡ get_or t i 0) → u ≡ t
  same_in_checksum agree =
      let front = same_before 32 u t long (λ i h. agree i (inl h)) in
      let behind = same_from 40 u t long (λ i h. agree i (inr (omega arith))) in
      let sums = lawful-u.2 ∙ ap checksum_of front ∙ sym lawful-t.2 in
      same_whole 32 u t front
      (same_whole 8 (drop 32 u) (drop 32 t) sums (drop-drop 8 32 u ∙ behind ∙ sym (drop-drop 8 32 t)))

  pub unaltered : Altered t u → ⊥
  unaltered (inl (k, low, a)) = a.inside (same_in_digits k low a.outside)
  unaltered (inr a) = a.inside (same_in_checksum a.outside)
