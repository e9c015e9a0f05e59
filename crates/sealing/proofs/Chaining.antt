-- A sealing as it grows, block by block. Assumes nothing.
use Rattle.std.proofs.Common.{◌≡◌, ℕ, zero, suc, ◌+◌, ◌*◌, ◌/◌, ◌<◌, ◌≤◌, List, ◌++◌, length, take, drop, sym, refl, ap, ◌∙◌, subst, add-one, arith, below_more}
use Rattle.std.proofs.lemmas.List.{drop-drop, length-take-le}
use Rattle.octets.specs.Bytes.{Small, ◌⊕◌}
use Rattle.sealing.specs.Blocks.{block}
use Rattle.sealing.specs.Padding.{padded}
use Rattle.sealing.specs.Seal.{Sealed, limit}
use Rattle.sealing.proofs.Cutting.{block-take, small_take, stored, stored_here, stored_below, stored_behind}
use Rattle.sealing.proofs.Padded.{length-padded}

-- The first block and n more stand in `out`, the last of them is `before`, and behind them all is as when it was begun.
pub record Chain (f : List ℕ → List ℕ) (plain head begun : List ℕ) (n : ℕ) (before out : List ℕ) : Type 0 where
  pub first : block 1 out ≡ head
  pub later : (j : ℕ) → j < n → block (suc (suc j)) out ≡ f (block (suc j) plain ⊕ block (suc j) out)
  pub last : block (suc n) out ≡ before
  pub behind : drop (16 * n + 16) out ≡ drop (16 * n + 16) begun

module _ (f : List ℕ → List ℕ) (plain head begun : List ℕ) where
  pub chain_none : block 1 begun ≡ head → Chain f plain head begun 0 head begun
  chain_none h = record { first = h; later = λ j lt. absurd (omega arith); last = h; behind = refl }

  module _ (n : ℕ) (before out b : List ℕ) (room : 16 * (n + 1) + 16 ≤ length out) (long : length b ≡ 16) where
    grown : List ℕ
    grown = stored (n + 1) out b room long

    below : (j : ℕ) → j < n + 1 → block (suc j) grown ≡ block (suc j) out
    unfolding grown
    below = stored_below (n + 1) out b room long

    more : Chain f plain head begun n before out → b ≡ f (block (suc n) plain ⊕ before) → Chain f plain head begun (n + 1) b grown
    unfolding grown
    more h is = record {
      first = below 0 (omega arith) ∙ h.first;
      later = below_more (λ j. block (suc (suc j)) grown ≡ f (block (suc j) plain ⊕ block (suc j) grown)) n
          (λ j lt. below (suc j) (omega arith) ∙ h.later j lt ∙ ap (λ x. f (block (suc j) plain ⊕ x)) (sym (below j (omega arith))))
          (ap (λ m. block (suc m) grown) (sym (add-one n)) ∙ stored_here (n + 1) out b room long ∙ is ∙ ap (λ x. f (block (suc n) plain ⊕ x)) (sym (below n (omega arith) ∙ h.last)));
      last = stored_here (n + 1) out b room long;
      behind =
          let on : 16 * (n + 1) + 16 ≡ 16 * n + 16 + 16 = omega arith in
          stored_behind (n + 1) out b room long
          ∙ ap (λ m. drop m out) on ∙ sym (drop-drop 16 (16 * n + 16) out) ∙ ap (drop 16) h.behind ∙ drop-drop 16 (16 * n + 16) begun
          ∙ ap (λ m. drop m begun) (sym on);
    }

    pub chain_more : (after : List ℕ) → after ≡ take (16 * (n + 1)) out ++ (b ++ drop (16 * (n + 1) + 16) out) → Chain f plain head begun n before out → b ≡ f (block (suc n) plain ⊕ before) → Chain f plain head begun (n + 1) b after
    unfolding grown
    chain_more after put h is = subst (Chain f plain head begun (n + 1) b) (sym put) (more h is)

-- where the chain has gone through the padded dataset
module _ (E : List ℕ → List ℕ → List ℕ) (key lead start dataset begun before out : List ℕ) (n : ℕ) (all : n ≡ length dataset / 16 + 1) (room : 16 * n + 16 ≤ length out) (h : Chain (E key) (padded dataset) (E key (lead ⊕ start)) begun n before out) where
  bytes : List ℕ
  bytes = take (16 * n + 16) out

  same : (j : ℕ) → j ≤ n → block (suc j) bytes ≡ block (suc j) out
  unfolding bytes
  same j le = block-take j (16 * n + 16) out (omega arith) room

  later : (i : ℕ) → 1 ≤ i → 16 * i ≤ length (padded dataset) → block (i + 1) bytes ≡ E key (block i (padded dataset) ⊕ block i bytes)
  later zero low high = absurd (omega arith)
  later (suc j) low high =
      let lt : j < n = omega (arith, length-padded dataset) in
      ap (λ m. block m bytes) (add-one (suc j)) ∙ same (suc j) lt ∙ h.later j lt ∙ ap (λ x. E key (block (suc j) (padded dataset) ⊕ x)) (sym (same j (omega arith)))

  pub chain_all : Small dataset → Small out → length dataset ≤ limit → Sealed E key lead start dataset (take (16 * n + 16) out)
  unfolding bytes
  chain_all given made within = record {
    given = given;
    within = within;
    made = small_take (16 * n + 16) out made;
    long = length-take-le (16 * n + 16) out room ∙ (omega arith);
    first = same 0 (omega arith) ∙ h.first;
    later = later;
  }
