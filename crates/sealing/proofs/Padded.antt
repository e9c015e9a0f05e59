-- Padding: what is put on is good and comes off again, and the last block alone tells of it. Assumes nothing.
use Rattle.std.proofs.Common.{◌≡◌, ℕ, zero, suc, ◌+◌, ◌-◌, ◌*◌, ◌/◌, ◌<◌, ◌≤◌, Bool, true, false, ◌&&◌, eqb, leb, ◌⊎◌, List, ◌++◌, length, get_or, take, drop, replicate, sym, refl, ap, ◌∙◌, ap₂, ⊎_elim, arith, length-append, length-drop}
use borrow.Rule.Slice.PartMut.{mid_of}
use lib.ListN.{length-replicate}
use Rattle.std.proofs.lemmas.List.{get_or_append_left, get_or-append_right, get_or_past, get_or-replicate, take_at, take_all, drop_at, drop-drop, drop-append-le}
use Rattle.std.proofs.lemmas.Bool.{and_from, and_left, and_right, and_parts, leb-true, le-leb, lt-leb, eq-eqb, cases_lt}
use Rattle.std.specs.Bool.{then_some}
use Rattle.octets.specs.Bytes.{Small, every}
use Rattle.sealing.specs.Blocks.{block}
use Rattle.sealing.specs.Padding.{pads, padded, last_byte, is_padded, unpadded, Ended}
use Rattle.sealing.proofs.Cutting.{block-append}

every-replicate : (n k : ℕ) → every (eqb k) (replicate n k) ≡ true
unfolding every
every-replicate zero k = refl
every-replicate (suc n) k = and_from _ _ (eq-eqb k k refl) (every-replicate n k)

-- a run with so many bytes of padding
test : ℕ → List ℕ → Bool
test n xs = leb 1 n && leb n 16 && every (eqb n) (drop (length xs - n) xs)

module _ (d : List ℕ) where
  fill : List ℕ
  fill = replicate (pads (length d)) (pads (length d))

  length_fill : length fill ≡ pads (length d)
  unfolding fill
  length_fill = length-replicate (pads (length d)) (pads (length d))

  pub length-padded : length (padded d) ≡ 16 * (length d / 16) + 16
  unfolding padded fill
  length-padded = omega (arith, length-append d fill, length_fill)

  pub get_or-padded : (k : ℕ) → k < length d → get_or (padded d) k 0 ≡ get_or d k 0
  unfolding padded fill
  get_or-padded k lt = get_or_append_left d fill 0 k lt

  pub small_padded : Small d → Small (padded d)
  unfolding padded fill
  small_padded small i =
      let n = pads (length d) in
      ⊎_elim
      (λ lt. rw (get_or_append_left d fill 0 i lt) (small i))
      (λ le.
      rw (get_or-append_right d fill (length d) i 0 refl le)
      (⊎_elim
      (λ lt. rw (get_or-replicate n (i - length d) n 0 lt) (omega arith))
      (λ past. rw (get_or_past fill (i - length d) 0 (omega (arith, length_fill))) (omega arith))
      (cases_lt (i - length d) n)))
      (cases_lt i (length d))

  pub whole_block : (i : ℕ) → 16 * i + 16 ≤ length d → block (suc i) (padded d) ≡ block (suc i) d
  unfolding padded fill
  whole_block i h = block-append i d fill h

  -- the block in which the dataset ends
  pub end_block : (i : ℕ) → 16 * i ≤ length d → length d < 16 * i + 16 → block (suc i) (padded d) ≡ drop (16 * i) d ++ replicate (16 - length (drop (16 * i) d)) (16 - length (drop (16 * i) d))
  unfolding padded fill block
  end_block i low high =
      let rest = length-drop (16 * i) d in
      let count : pads (length d) ≡ 16 - length (drop (16 * i) d) = omega arith in
      ap (take 16) (drop-append-le (16 * i) d fill low)
      ∙ take_all 16 (drop (16 * i) d ++ fill) (omega (arith, length-append (drop (16 * i) d) fill, length_fill, rest))
      ∙ ap (λ n. drop (16 * i) d ++ replicate n n) count

  pub last_padded : last_byte (padded d) ≡ pads (length d)
  unfolding padded fill
  last_padded =
      let long = length-append d fill in
      get_or-append_right d fill (length d) (length (d ++ fill) - 1) 0 refl (omega (arith, long, length_fill))
      ∙ get_or-replicate (pads (length d)) (length (d ++ fill) - 1 - length d) (pads (length d)) 0 (omega (arith, long, length_fill))

  pub kept : length (padded d) - pads (length d) ≡ length d
  unfolding padded fill
  kept = omega (arith, length-append d fill, length_fill)

  pub padded_is_good : is_padded (padded d) ≡ true
  unfolding is_padded test padded fill
  padded_is_good =
      let n = pads (length d) in
      let behind : drop (length (padded d) - n) (padded d) ≡ fill = ap (λ m. drop m (padded d)) kept ∙ drop_at d fill (length d) refl in
      ap (λ k. test k (padded d)) last_padded
      ∙ and_from _ _ (and_from _ _ (le-leb 1 n (omega arith)) (le-leb n 16 (omega arith))) (ap (every (eqb n)) behind ∙ every-replicate n n)

  pub unpadded-padded : unpadded (padded d) ≡ d
  unfolding unpadded padded fill
  unpadded-padded = ap (λ n. take (length (padded d) - n) (padded d)) last_padded ∙ ap (λ m. take m (padded d)) kept ∙ take_at d fill (length d) refl

-- the last block tells
module _ (front b : List ℕ) (long : length b ≡ 16) where
  pub last_of_block : last_byte (front ++ b) ≡ last_byte b
  last_of_block =
      let both = length-append front b in
      let here : length (front ++ b) - 1 - length front ≡ length b - 1 = omega arith in
      get_or-append_right front b (length front) (length (front ++ b) - 1) 0 refl (omega arith) ∙ ap (λ k. get_or b k 0) here

  end_of_block : (n : ℕ) → n ≤ 16 → drop (length (front ++ b) - n) (front ++ b) ≡ drop (length b - n) b
  end_of_block n h =
      let both = length-append front b in
      let here : length (front ++ b) - n ≡ length front + (length b - n) = omega arith in
      ap (λ m. drop m (front ++ b)) here ∙ sym (drop-drop (length b - n) (length front) (front ++ b)) ∙ ap (drop (length b - n)) (drop_at front b (length front) refl)

  same_test : (n : ℕ) → test n (front ++ b) ≡ test n b
  unfolding test
  same_test n =
      ⊎_elim
      (λ over. let no' = and_right (leb 1 n) _ (lt-leb n 16 over) in and_left _ _ no' ∙ sym (and_left _ _ no'))
      (λ within. ap (λ l. leb 1 n && leb n 16 && every (eqb n) l) (end_of_block n within))
      (cases_lt 16 n)

  pub good_by_block : is_padded (front ++ b) ≡ is_padded b
  unfolding is_padded test
  good_by_block = ap (λ n. test n (front ++ b)) last_of_block ∙ same_test (last_byte b)

pub good_count : (xs : List ℕ) → is_padded xs ≡ true → last_byte xs ≤ 16
unfolding is_padded
good_count xs good =
    let n = last_byte xs in
    leb-true n 16 (and_parts (leb 1 n) (leb n 16) (and_parts (leb 1 n && leb n 16) _ good).0).1

-- a last block, tried byte by byte
module _ (b : List ℕ) (long : length b ≡ 16) where
  abbrev count : ℕ
  count = get_or b 15 0

  pub last_is : count ≡ last_byte b
  last_is = ap (λ n. get_or b (n - 1) 0) (sym long)

  tested : is_padded b ≡ test count b
  unfolding is_padded test
  tested = ap (λ n. test n b) (sym last_is)

  pub none_or_too_many : (count < 1) ⊎ (16 < count) → is_padded b ≡ false
  unfolding test
  none_or_too_many out =
      tested ∙ and_left _ _ (⊎_elim (λ none. and_left _ _ (lt-leb 1 count none)) (λ over. and_right (leb 1 count) _ (lt-leb count 16 over)) out)

  pub by_bytes : 1 ≤ count → count ≤ 16 → is_padded b ≡ every (eqb count) (mid_of (16 - count) (16 - (16 - count)) b)
  unfolding test
  by_bytes low high =
      let end : drop (length b - count) b ≡ mid_of (16 - count) (16 - (16 - count)) b =
      ap (λ n. drop (n - count) b) long ∙ sym (take_all (16 - (16 - count)) (drop (16 - count) b) (omega (arith, length-drop (16 - count) b))) in
      tested ∙ ap₂ (λ x y. x && y && every (eqb count) (drop (length b - count) b)) (le-leb 1 count low) (le-leb count 16 high)
      ∙ ap (every (eqb count)) end

-- what was found of a last block, as an answer
pub ended : (b : List ℕ) (good : Bool) (n : ℕ) → is_padded b ≡ good → n ≡ last_byte b → Ended b (then_some good n)
ended b true n is e = (is, e)
ended b false n is e = is
