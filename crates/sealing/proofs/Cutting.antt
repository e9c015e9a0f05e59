-- Blocks of a run of bytes: their lengths, their places, and runs that agree block by block. Assumes nothing.
use Rattle.std.proofs.Common.{◌≡◌, ℕ, suc, ◌+◌, ◌*◌, ◌/◌, ◌%◌, ◌<◌, ◌≤◌, List, [], ◌∷◌, ◌++◌, length, get_or, take, drop, sym, ap, ◌∙◌, ⊎_elim, append_assoc, arith, length-append, length-drop, take-append-drop, length-take}
use Rattle.std.proofs.lemmas.List.{ext_get_or, get_or-take, get_or-drop, get_or_past, length-take-le, take_all, take_at, drop_at, take-append-le, drop-append-le, drop-drop}
use Rattle.std.proofs.lemmas.Bool.{cases_lt}
use Rattle.std.specs.Simd.{first_chunks}
use Rattle.octets.specs.Bytes.{Bytes, Small}
use Rattle.octets.proofs.Chunks.{chunk_at}
use Rattle.sealing.specs.Blocks.{block}

pub small_take : (n : ℕ) (xs : List ℕ) → Small xs → Small (take n xs)
small_take n xs small k =
    ⊎_elim
    (λ lt. rw (get_or-take n xs k 0 lt) (small k))
    (λ le. rw (get_or_past (take n xs) k 0 (omega (arith, length-take n xs))) (omega arith))
    (cases_lt k n)

module _ (i : ℕ) (xs : List ℕ) where
  pub length-block : 16 * i + 16 ≤ length xs → length (block (suc i) xs) ≡ 16
  unfolding block
  length-block h = length-take-le 16 (drop (16 * i) xs) (omega (arith, length-drop (16 * i) xs))

  pub get_or-block : (k : ℕ) → k < 16 → get_or (block (suc i) xs) k 0 ≡ get_or xs (16 * i + k) 0
  unfolding block
  get_or-block k h = get_or-take 16 (drop (16 * i) xs) k 0 h ∙ get_or-drop (16 * i) xs k 0

  pub small_block : Small xs → Small (block (suc i) xs)
  unfolding block
  small_block small = small_take 16 (drop (16 * i) xs) (λ k. rw (get_or-drop (16 * i) xs k 0) (small (16 * i + k)))

  pub bytes_block : 16 * i + 16 ≤ length xs → Small xs → Bytes 16 (block (suc i) xs)
  bytes_block h small = record { long = length-block h; small = small_block small }

  pub block-append : (ys : List ℕ) → 16 * i + 16 ≤ length xs → block (suc i) (xs ++ ys) ≡ block (suc i) xs
  unfolding block
  block-append ys h =
      ap (take 16) (drop-append-le (16 * i) xs ys (omega arith))
      ∙ take-append-le 16 (drop (16 * i) xs) ys (omega (arith, length-drop (16 * i) xs))

  pub block_at : (b ys : List ℕ) → length xs ≡ 16 * i → length b ≡ 16 → block (suc i) (xs ++ (b ++ ys)) ≡ b
  unfolding block
  block_at b ys hx hb = ap (take 16) (drop_at xs (b ++ ys) (16 * i) hx) ∙ take_at b ys 16 hb

-- and as a slice's pieces
pub chunk_is : (xs : List ℕ) (pieces : List (List ℕ)) (i : ℕ) → pieces ≡ first_chunks 16 (length xs / 16) xs → i < length xs / 16 → get_or pieces i [] ≡ block (suc i) xs
unfolding block
chunk_is xs pieces i so lt = ap (λ l. get_or l i []) so ∙ chunk_at 16 (length xs / 16) xs i lt

pub take-append_add : (xs ys : List ℕ) (n : ℕ) → take (length xs + n) (xs ++ ys) ≡ xs ++ take n ys
take-append_add [] ys n = ap (λ m. take m ys) (omega arith)
take-append_add (x ∷ xs) ys n =
    let on : suc (length xs) + n ≡ suc (length xs + n) = omega arith in
    ap (λ m. take m (x ∷ (xs ++ ys))) on ∙ ap (λ l. x ∷ l) (take-append_add xs ys n)

pub block-take : (i n : ℕ) (xs : List ℕ) → 16 * i + 16 ≤ n → n ≤ length xs → block (suc i) (take n xs) ≡ block (suc i) xs
block-take i n xs h k =
    sym (block-append i (take n xs) (drop n xs) (omega (arith, length-take-le n xs k))) ∙ ap (block (suc i)) (take-append-drop n xs)

-- past a first block
pub block_past : (i : ℕ) (b ys : List ℕ) → length b ≡ 16 → block (suc (suc i)) (b ++ ys) ≡ block (suc i) ys
unfolding block
block_past i b ys h =
    let further : 16 * suc i ≡ 16 + 16 * i = omega arith in
    ap (take 16) (ap (λ n. drop n (b ++ ys)) further ∙ sym (drop-drop (16 * i) 16 (b ++ ys)) ∙ ap (drop (16 * i)) (drop_at b ys 16 h))

-- a run of whole blocks is told by them
pub same_blocks : (n : ℕ) (xs ys : List ℕ) → length xs ≡ 16 * n → length ys ≡ 16 * n → ((i : ℕ) → i < n → block (suc i) xs ≡ block (suc i) ys) → xs ≡ ys
same_blocks n xs ys hx hy same =
    ext_get_or 0 xs ys (hx ∙ sym hy)
    (λ p h.
    let i = p / 16 in
    let k = p % 16 in
    let split : p ≡ 16 * i + k = omega arith in
    let low : k < 16 = omega arith in
    ap (λ q. get_or xs q 0) split ∙ sym (get_or-block i xs k low) ∙ ap (λ b. get_or b k 0) (same i (omega arith)) ∙ get_or-block i ys k low
    ∙ ap (λ q. get_or ys q 0) (sym split))

-- the last of some whole blocks
pub cut_last : (m : ℕ) (xs : List ℕ) → length xs ≡ 16 * m + 16 → xs ≡ take (16 * m) xs ++ block (suc m) xs
unfolding block
cut_last m xs long =
    sym (take-append-drop (16 * m) xs) ∙ ap (λ l. take (16 * m) xs ++ l) (sym (take_all 16 (drop (16 * m) xs) (omega (arith, length-drop (16 * m) xs))))

-- one block put into its place, counted from 0
module _ (i : ℕ) (out b : List ℕ) (room : 16 * i + 16 ≤ length out) (long : length b ≡ 16) where
  abbrev pub stored : List ℕ
  stored = take (16 * i) out ++ (b ++ drop (16 * i + 16) out)

  front : length (take (16 * i) out) ≡ 16 * i
  front = length-take-le (16 * i) out (omega arith)

  pub stored_here : block (suc i) stored ≡ b
  stored_here = block_at i (take (16 * i) out) b (drop (16 * i + 16) out) front long

  pub stored_below : (j : ℕ) → j < i → block (suc j) stored ≡ block (suc j) out
  stored_below j h =
      block-append j (take (16 * i) out) (b ++ drop (16 * i + 16) out) (omega (arith, front)) ∙ block-take j (16 * i) out (omega arith) (omega arith)

  pub stored_behind : drop (16 * i + 16) stored ≡ drop (16 * i + 16) out
  stored_behind =
      ap (drop (16 * i + 16)) (sym (append_assoc (take (16 * i) out) b (drop (16 * i + 16) out)))
      ∙ drop_at (take (16 * i) out ++ b) (drop (16 * i + 16) out) (16 * i + 16) (omega (arith, length-append (take (16 * i) out) b, front, long))
