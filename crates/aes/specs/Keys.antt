-- An expanded key: how many words it has, that each is four bytes, and its round keys, each from the one before.
-- Assumes nothing.
use Rattle.std.specs.Prelude.{◌≡◌, ℕ, zero, suc, ◌+◌, ◌-◌, ◌*◌, ◌/◌, ◌%◌, ◌<◌, ◌≤◌, Bool, true, false, cond, ◌&&◌, List, [], ◌∷◌, ◌++◌, map, length, get_or, take, ◌==◌, ◌≢◌, nat_lt, slice_index, slice_index_or, slice_set}
use Rattle.std.proofs.Common.{refl, sym, ap, ap₂, ◌∙◌}
use Rattle.std.proofs.Math.Logic.{⊎_elim}
use native.Mathlib.Omega.{arith}
use Rattle.std.proofs.Math.ListN.{length-append}
use Rattle.std.proofs.lemmas.List.FromFn.{length-map-range_with_len, get_or-map-range_with_len}
use Rattle.std.proofs.lemmas.List.{get_or_append_left, get_or-append_right, get_or-take, take_more_set}
use Rattle.std.proofs.lemmas.Bool.{cases_lt, cond-true, cond-false, eq-eqb, ne_eqb}
use Rattle.std.specs.List.{range_with_len}
use Rattle.octets.specs.Bytes.{Bytes, ◌⊕◌}
use Rattle.octets.proofs.Blocks.{bytes_zeros, bytes_set, bytes_by_places}
use Rattle.octets.proofs.Xor.{Bytes-⊕}
use Rattle.aes.specs.Cipher.{round_key}
use Rattle.aes.specs.Expansion.{rot_word, rcon, turned, following, next, expanded}
use Rattle.aes.specs.Polynomials.{power}
use Rattle.aes.specs.Steps.{word, sub_word, state}
use Rattle.aes.specs.Box.{s_box_small}
use Rattle.aes.specs.Mixing.{product_small}
use Rattle.aes.specs.States.{Lawful, lawful_columns}

power_small : (b n : ℕ) → power b n < 256
unfolding power
power_small b zero = omega arith
power_small b (suc n) = product_small 8 b (power b n) (power_small b n)

sub_word_bytes : (w : List ℕ) → Bytes 4 (sub_word w)
sub_word_bytes w = bytes_by_places 4 _ (λ r hr. s_box_small (slice_index w r))

rcon_bytes : (j : ℕ) → Bytes 4 (rcon j)
rcon_bytes j = bytes_set (bytes_zeros 4) 0 (power 2 (j - 1)) (power_small 2 (j - 1))

either : {v w : List ℕ} (b : Bool) → Bytes 4 v → Bytes 4 w → Bytes 4 (cond b v w)
either true hv hw = hv
either false hv hw = hw

turned_bytes : (nk i : ℕ) (t : List ℕ) → Bytes 4 t → Bytes 4 (turned nk i t)
turned_bytes nk i t h =
    either (i % nk == 0) (Bytes-⊕ (sub_word_bytes (rot_word t)) (rcon_bytes (i / nk)))
    (either (nat_lt 6 nk && i % nk == 4) (sub_word_bytes t) h)

next_bytes : (nk i : ℕ) (w : List (List ℕ)) → 0 < nk → nk ≤ i → ((j : ℕ) → j < i → Bytes 4 (slice_index_or w j [])) → Bytes 4 (next nk w i)
unfolding next
next_bytes nk i w some le each = Bytes-⊕ (each (i - nk) (omega arith)) (turned_bytes nk i (slice_index_or w (i - 1) []) (each (i - 1) (omega arith)))

-- nk + n words
module _ (nk : ℕ) (k : List ℕ) where
  expanded_long : (n : ℕ) → length (expanded nk k n) ≡ nk + n
  unfolding expanded
  expanded_long zero = length-map-range_with_len (λ i. word (λ r. slice_index k (4 * i + r))) 0 nk ∙ omega arith
  expanded_long (suc n) = let before = expanded_long n in length-append (expanded nk k n) _ ∙ omega arith

  expanded_bytes : 0 < nk → Bytes (4 * nk) k → (n i : ℕ) → i < nk + n → Bytes 4 (slice_index_or (expanded nk k n) i [])
  unfolding expanded
  expanded_bytes some h zero i hi =
      rw (get_or-map-range_with_len (λ i. word (λ r. slice_index k (4 * i + r))) 0 nk i i [] (omega arith) (omega arith))
      (bytes_by_places 4 _ (λ r hr. h.small (4 * i + r)))
  expanded_bytes some h (suc n) i hi =
      let w = expanded nk k n in
      let new = next nk w (nk + n) in
      let each = expanded_bytes some h n in
      let here = next_bytes nk (nk + n) w some (omega arith) each in
      ⊎_elim
      (λ lt. rw (get_or_append_left w (new ∷ []) [] i (omega (arith, expanded_long n))) (each i lt))
      (λ le.
      let end : i - (nk + n) ≡ 0 = omega arith in
      rw (get_or-append_right w (new ∷ []) (nk + n) i [] (expanded_long n) le, end) here)
      (cases_lt i (nk + n))

-- the words of a round that the expansion has
pub round_key_lawful : (nk n i : ℕ) (k : List ℕ) → 0 < nk → Bytes (4 * nk) k → 4 * i + 4 ≤ nk + n → Lawful (round_key (expanded nk k n) i)
round_key_lawful nk n i k some h fits = lawful_columns _ (λ c hc. expanded_bytes nk k some h n (4 * i + c) (omega arith))

-- the round keys of AES-128, each from the one before

pub power_at : (j : ℕ) → j < 10 → slice_index (map (power 2) (range_with_len 0 10)) j ≡ power 2 j
power_at j h = get_or-map-range_with_len (power 2) 0 10 j j 0 h (omega arith)

pub turned_first : (i p : ℕ) (t : List ℕ) → i % 4 ≡ 0 → p ≡ power 2 (i / 4 - 1) → sub_word (rot_word t) ⊕ (p ∷ 0 ∷ 0 ∷ 0 ∷ []) ≡ turned 4 i t
turned_first i p t divides is = ap (λ x. sub_word (rot_word t) ⊕ (x ∷ 0 ∷ 0 ∷ 0 ∷ [])) is ∙ sym (cond-true _ _ _ (eq-eqb (i % 4) 0 divides))

pub turned_other : (i : ℕ) (t : List ℕ) → (i % 4 ≢ 0) → t ≡ turned 4 i t
turned_other i t not = sym (cond-false _ _ _ (ne_eqb (i % 4) 0 not))

-- a word after the first four, from those before it
later_word : (k : List ℕ) (n i : ℕ) → 4 ≤ i → i < 4 + n
    → slice_index_or (expanded 4 k n) i [] ≡ slice_index_or (expanded 4 k n) (i - 4) [] ⊕ turned 4 i (slice_index_or (expanded 4 k n) (i - 1) [])
unfolding expanded next
later_word k zero i lo hi = absurd (omega arith)
later_word k (suc n) i lo hi =
    let w = expanded 4 k n in
    let new = next 4 w (4 + n) in
    let before : (j : ℕ) → j < 4 + n → slice_index_or w j [] ≡ slice_index_or (w ++ (new ∷ [])) j []
    = λ j h. sym (get_or_append_left w (new ∷ []) [] j (omega (arith, expanded_long 4 k n))) in
    let from : i ≤ 4 + n → slice_index_or w (i - 4) [] ⊕ turned 4 i (slice_index_or w (i - 1) []) ≡ slice_index_or (w ++ (new ∷ [])) (i - 4) [] ⊕ turned 4 i (slice_index_or (w ++ (new ∷ [])) (i - 1) [])
    = λ le. ap₂ (λ v t. v ⊕ turned 4 i t) (before (i - 4) (omega arith)) (before (i - 1) (omega arith)) in
    ⊎_elim
    (λ lt. sym (before i lt) ∙ later_word k n i lo lt ∙ from (omega arith))
    (λ le.
    let here : i ≡ 4 + n = omega arith in
    let end : i - (4 + n) ≡ 0 = omega arith in
    get_or-append_right w (new ∷ []) (4 + n) i [] (expanded_long 4 k n) le ∙ ap (λ j. slice_index_or (new ∷ []) j []) end ∙ ap (next 4 w) (sym here) ∙ from (omega arith))
    (cases_lt i (4 + n))

pub first_key : (k : List ℕ) (n : ℕ) → state k ≡ round_key (expanded 4 k n) 0
unfolding expanded state
first_key k zero = refl
first_key k (suc n) =
    let w = expanded 4 k n in
    let more = w ++ (next 4 w (4 + n) ∷ []) in
    let same : (i : ℕ) → i < 4 → slice_index_or w i [] ≡ slice_index_or more i [] = λ i h. sym (get_or_append_left w _ [] i (omega (arith, expanded_long 4 k n))) in
    let a = same 0 (omega arith) in
    let b = same 1 (omega arith) in
    let c = same 2 (omega arith) in
    let d = same 3 (omega arith) in
    cc (first_key k n)

-- word c of round key j + 1; `before` is the word's place less one
word_of_next : (k : List ℕ) (n j c before : ℕ) → 4 * j + c < n → before + 1 ≡ 4 * (j + 1) + c
    → slice_index_or (expanded 4 k n) (4 * j + c) [] ⊕ turned 4 (4 * (j + 1) + c) (slice_index_or (expanded 4 k n) before []) ≡ slice_index_or (expanded 4 k n) (4 * (j + 1) + c) []
word_of_next k n j c before fits is =
    let w = expanded 4 k n in
    let i = 4 * (j + 1) + c in
    let above : i - 4 ≡ 4 * j + c = omega arith in
    let beside : i - 1 ≡ before = omega arith in
    sym (later_word k n i (omega arith) (omega arith) ∙ ap₂ (λ a b. slice_index_or w a [] ⊕ turned 4 i (slice_index_or w b [])) above beside)

pub next_key : (k : List ℕ) (n j : ℕ) → 4 * j + 4 ≤ n → following (round_key (expanded 4 k n) j) (power 2 j) ≡ round_key (expanded 4 k n) (j + 1)
next_key k n j fits =
    let w = expanded 4 k n in
    let power_is : power 2 j ≡ power 2 ((4 * (j + 1) + 0) / 4 - 1) = ap (power 2) (omega arith) in
    let first = ap (λ t. slice_index_or w (4 * j + 0) [] ⊕ t) (turned_first (4 * (j + 1) + 0) (power 2 j) (slice_index_or w (4 * j + 3) []) (omega arith) power_is)
    ∙ word_of_next k n j 0 (4 * j + 3) (omega arith) (omega arith) in
    let other : (c : ℕ) → 0 < c → c < 4 → slice_index_or w (4 * j + c) [] ⊕ slice_index_or w (4 * (j + 1) + (c - 1)) [] ≡ slice_index_or w (4 * (j + 1) + c) []
    = λ c some few.
    ap (λ t. slice_index_or w (4 * j + c) [] ⊕ t) (turned_other (4 * (j + 1) + c) (slice_index_or w (4 * (j + 1) + (c - 1)) []) (omega arith))
    ∙ word_of_next k n j c (4 * (j + 1) + (c - 1)) (omega arith) (omega arith) in
    let second = other 1 (omega arith) (omega arith) in
    let third = other 2 (omega arith) (omega arith) in
    let fourth = other 3 (omega arith) (omega arith) in
    cc

-- and its words, each from those before: what one more of them, put into its place, makes of an array
pub one_more : (k new : List ℕ) (w : List (List ℕ)) (i : ℕ) → 4 ≤ i → i < length w → take i w ≡ expanded 4 k (i - 4)
    → new ≡ get_or w (i - 4) [] ⊕ turned 4 i (slice_index_or w (i - 1) []) → take (i + 1) (slice_set w i new) ≡ expanded 4 k (i + 1 - 4)
unfolding expanded next
one_more k new w i le lt before is =
    let e = expanded 4 k (i - 4) in
    let at : (j : ℕ) → j < i → slice_index_or w j [] ≡ get_or e j [] = λ j h. sym (get_or-take i w j [] h) ∙ ap (λ l. get_or l j []) before in
    let here : 4 + (i - 4) ≡ i = omega arith in
    let on : suc (i - 4) ≡ i + 1 - 4 = omega arith in
    take_more_set w i new lt
    ∙ ap₂ (λ l x. l ++ (x ∷ [])) before (is ∙ ap₂ (λ v t. v ⊕ turned 4 i t) (at (i - 4) (omega arith)) (at (i - 1) (omega arith)) ∙ ap (next 4 e) (sym here))
    ∙ ap (expanded 4 k) on
