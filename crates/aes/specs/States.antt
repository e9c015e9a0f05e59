-- States by their places. Assumes nothing.
use Rattle.std.specs.Prelude.{◌≡◌, ℕ, ◌<◌, List, [], length, slice_index, slice_index_or}
use Rattle.std.proofs.Common.{sym, ap, ◌∙◌, arith}
use Rattle.std.proofs.lemmas.List.FromFn.{length-map-range_with_len, get_or-map-range_with_len, fill_by_all}
use Rattle.octets.specs.Bytes.{Bytes}
use Rattle.aes.specs.Steps.{State, word, columns, square, at}

-- four columns of four bytes
pub record Lawful (s : State) : Type 0 where
  pub long : length s ≡ 4
  pub column : (c : ℕ) → c < 4 → Bytes 4 (slice_index_or s c [])

pub at-column : (f : ℕ → List ℕ) (c : ℕ) → c < 4 → slice_index_or (columns f) c [] ≡ f c
at-column f c h = get_or-map-range_with_len f 0 4 c c [] h (omega arith)

pub at-square : (f : ℕ → ℕ → ℕ) (c r : ℕ) → c < 4 → r < 4 → at (square f) c r ≡ f c r
at-square f c r hc hr = ap (λ w. slice_index w r) (at-column (λ c. word (f c)) c hc) ∙ get_or-map-range_with_len (f c) 0 4 r r 0 hr (omega arith)

pub lawful_columns : (f : ℕ → List ℕ) → ((c : ℕ) → c < 4 → Bytes 4 (f c)) → Lawful (columns f)
lawful_columns f each = record { long = length-map-range_with_len f 0 4; column = λ c h. rw (at-column f c h) (each c h) }

-- a state is what it has in its columns, and in its places
pub by_columns : (f : ℕ → List ℕ) (s : State) → Lawful s → ((c : ℕ) → c < 4 → f c ≡ slice_index_or s c []) → columns f ≡ s
by_columns f s good same = sym (fill_by_all f s 4 [] good.long (λ c h. sym (same c h)))

pub by_word : (f : ℕ → ℕ) (w : List ℕ) → Bytes 4 w → ((r : ℕ) → r < 4 → f r ≡ slice_index w r) → word f ≡ w
by_word f w good same = sym (fill_by_all f w 4 0 good.long (λ r h. sym (same r h)))

pub by_square : (f : ℕ → ℕ → ℕ) (s : State) → Lawful s → ((c r : ℕ) → c < 4 → r < 4 → f c r ≡ at s c r) → square f ≡ s
by_square f s good same = by_columns (λ c. word (f c)) s good (λ c hc. by_word (f c) (slice_index_or s c []) (good.column c hc) (λ r hr. same c r hc hr))
