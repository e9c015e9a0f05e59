-- Damage to one sealed block changes two blocks of the dataset, and no other. Assumes nothing.
use Rattle.std.proofs.Common.{◌≡◌, ℕ, zero, suc, ◌+◌, ◌-◌, ◌*◌, ◌/◌, ◌<◌, ◌≤◌, true, ◌⊎◌, List, length, get_or, take, drop, Result, sym, refl, ap, ◌∙◌, subst, ap₂, inl, inr, ⊎_elim, arith, length-drop, length-take}
use Rattle.std.proofs.lemmas.List.{ext_get_or, get_or-take, length-take-le}
use Rattle.std.proofs.lemmas.Bool.{cases_eq, cases_lt, cases_order, cond-true, cond-false, le-leb, lt-leb}
use Rattle.octets.specs.Alteration.{AlteredAt}
use Rattle.octets.specs.Bytes.{Bytes, Small, ◌⊕◌}
use Rattle.octets.specs.Output.{Writes, WritesSuch}
use Rattle.octets.proofs.Xor.{Bytes-⊕, ⊕_undo, ⊕_cancel}
use Rattle.cipher.specs.Keyed.{Laws}
use Rattle.sealing.specs.Blocks.{block}
use Rattle.sealing.specs.Damage.{Damaged, ChangedAt, short_for, Withstands}
use Rattle.sealing.specs.Open.{is_sealed_length, plain, opening, delivered, Recovers}
use Rattle.sealing.specs.Padding.{padded, last_byte, is_padded, unpadded, pads}
use Rattle.sealing.specs.Seal.{Sealed}
use Rattle.sealing.specs.declared.open.OpenRefusal.{OpenRefusal}
use Rattle.sealing.proofs.Cutting.{length-block, get_or-block, bytes_block, block-take, same_blocks, cut_last}
use Rattle.sealing.proofs.Opened.{plain-block_is, length-plain, block-plain}
use Rattle.sealing.proofs.Padded.{length-padded, get_or-padded, whole_block, last_padded, padded_is_good, last_of_block, good_by_block}
use Rattle.sealing.proofs.Recovering.{count, lawful_length, bytes_padded-block, bytes_sealed_block, sealed_later, summed, plain-block, recovered}

-- a block of two runs that agree at its places
same_block : (j : ℕ) (xs ys : List ℕ) → length xs ≡ length ys → ((k : ℕ) → k < 16 → 16 * j + k < length xs → get_or xs (16 * j + k) 0 ≡ get_or ys (16 * j + k) 0) → block (suc j) xs ≡ block (suc j) ys
unfolding block
same_block j xs ys long same =
    let lx = length-take 16 (drop (16 * j) xs) in
    let ly = length-take 16 (drop (16 * j) ys) in
    let dx = length-drop (16 * j) xs in
    let dy = length-drop (16 * j) ys in
    ext_get_or 0 (take 16 (drop (16 * j) xs)) (take 16 (drop (16 * j) ys)) (omega arith)
    (λ k h. let low : k < 16 = omega arith in get_or-block j xs k low ∙ same k low (omega arith) ∙ sym (get_or-block j ys k low))

-- outside the block nothing is altered, and in it something is
module _ (p n : ℕ) (s t : List ℕ) (alt : AlteredAt (16 * p) 16 s t) where
  pub elsewhere : (j : ℕ) → (j ≡ p → ⊥) → block (suc j) t ≡ block (suc j) s
  elsewhere j ne =
      same_block j t s alt.long
      (λ k low inside. alt.outside (16 * j + k) (⊎_elim (λ e. absurd (ne e)) (⊎_elim (λ lt. inl (omega arith)) (λ gt. inr (omega arith))) (cases_order j p)))

  pub struck : length s ≡ 16 * n → block (suc p) t ≡ block (suc p) s → ⊥
  struck long same =
      alt.inside
      (same_blocks n t s (alt.long ∙ long) long
      (λ j lt. ⊎_elim (λ e. ap (λ m. block (suc m) t) e ∙ same ∙ ap (λ m. block (suc m) s) (sym e)) (elsewhere j) (cases_eq j p)))

module _ (E D : List ℕ → List ℕ → List ℕ) (key : List ℕ) (law : Laws E D key) (lead start dataset sealed : List ℕ) (s : Sealed E key lead start dataset sealed) (damaged : List ℕ) (small : Small damaged) (p : ℕ) (alt : AlteredAt (16 * p) 16 sealed damaged) (inner : 16 * (p + 3) ≤ length sealed) where
  -- the whole blocks of the dataset, and then one that ends the padding
  abbrev m : ℕ
  m = length dataset / 16

  long_sealed : length sealed ≡ 16 * (m + 1) + 16
  long_sealed = count E D key law lead start dataset sealed s

  long_damaged : length damaged ≡ 16 * (m + 1) + 16
  long_damaged = alt.long ∙ long_sealed

  low : p + 1 ≤ m
  low = omega (arith, long_sealed)

  plain_damaged : List ℕ
  plain_damaged = plain D key damaged

  length_damaged : length plain_damaged ≡ 16 * m + 16
  unfolding plain_damaged
  length_damaged = length-plain D key damaged law.dec_sixteen small (m + 1) long_damaged ∙ (omega arith)

  block_damaged : (j : ℕ) → j < m + 1 → block (suc j) plain_damaged ≡ D key (block (suc (suc j)) damaged) ⊕ block (suc j) damaged
  unfolding plain_damaged
  block_damaged j lt = block-plain D key damaged law.dec_sixteen small (m + 1) long_damaged j lt ∙ plain-block_is D key damaged j

  same_damaged : (j : ℕ) → j < m + 1 → (suc j ≡ p → ⊥) → (j ≡ p → ⊥) → block (suc j) plain_damaged ≡ block (suc j) (padded dataset)
  same_damaged j lt next here =
      block_damaged j lt ∙ ap₂ (λ x y. D key x ⊕ y) (elsewhere p (m + 2) sealed damaged alt (suc j) next) (elsewhere p (m + 2) sealed damaged alt j here)
      ∙ plain-block E D key law lead start dataset sealed s j lt

  altered : block (suc p) damaged ≡ block (suc p) sealed → ⊥
  altered = struck p (m + 2) sealed damaged alt (long_sealed ∙ (omega arith))

  bytes_damaged : (j : ℕ) → j < m + 2 → Bytes 16 (block (suc j) damaged)
  bytes_damaged j lt = bytes_block j damaged (omega (arith, long_damaged)) small

  -- the struck block is enciphered from the plain block of its place
  before_damage : (j : ℕ) → suc j ≡ p → block (suc j) plain_damaged ≡ block (suc j) (padded dataset) → ⊥
  before_damage j e same =
      let lt : j < m + 1 = omega (arith, low) in
      let b = block (suc (suc j)) damaged in
      let x = block (suc j) sealed in
      let sixteen : Bytes 16 b = bytes_damaged (suc j) (omega (arith, low)) in
      let sum : D key b ⊕ x ≡ block (suc j) (padded dataset) =
      ap (λ y. D key b ⊕ y) (sym (elsewhere p (m + 2) sealed damaged alt j (λ here. absurd (omega arith)))) ∙ sym (block_damaged j lt) ∙ same in
      let deciphered : D key b ≡ block (suc j) (padded dataset) ⊕ x =
      sym (⊕_undo (law.dec_sixteen b sixteen) (bytes_sealed_block E D key law lead start dataset sealed s j (omega arith))) ∙ ap (λ y. y ⊕ x) sum in
      let again : b ≡ block (suc (suc j)) sealed =
      sym (law.enciphered b sixteen) ∙ ap (E key) deciphered ∙ sym (sealed_later E D key law lead start dataset sealed s j lt) in
      altered (subst (λ q. block (suc q) damaged ≡ block (suc q) sealed) e again)

  -- and it goes into the plain block behind
  here_damaged : block (suc p) plain_damaged ≡ block (suc p) (padded dataset) → ⊥
  here_damaged same =
      let lt : p < m + 1 = omega (arith, low) in
      let x = block (suc p) (padded dataset) in
      let y = block (suc p) sealed in
      let z = block (suc p) damaged in
      let hx = bytes_padded-block E D key law lead start dataset sealed s p lt in
      let hy = bytes_sealed_block E D key law lead start dataset sealed s p (omega arith) in
      let hz = bytes_damaged p (omega arith) in
      let sum : x ⊕ y ⊕ z ≡ x =
      ap (λ q. q ⊕ z) (sym (summed E D key law lead start dataset sealed s p lt) ∙ ap (D key) (sym (elsewhere p (m + 2) sealed damaged alt (suc p) (λ e. absurd (omega arith)))))
      ∙ sym (block_damaged p lt) ∙ same in
      altered (sym (⊕_cancel hx hy hz (sym (⊕_undo (Bytes-⊕ hx hy) hz) ∙ ap (λ q. q ⊕ z) sum)))

  -- the padding stands in the last block, which is whole
  length_plain : length (padded dataset) ≡ 16 * m + 16
  length_plain = length-padded dataset

  last_same : block (suc m) plain_damaged ≡ block (suc m) (padded dataset)
  last_same = same_damaged m (omega arith) (λ e. absurd (omega (arith, low))) (λ e. absurd (omega (arith, low)))

  good_damaged : is_padded plain_damaged ≡ true
  good_damaged =
      ap is_padded (cut_last m plain_damaged length_damaged) ∙ good_by_block (take (16 * m) plain_damaged) (block (suc m) plain_damaged) (length-block m plain_damaged (omega (arith, length_damaged)))
      ∙ ap is_padded last_same
      ∙ sym (good_by_block (take (16 * m) (padded dataset)) (block (suc m) (padded dataset)) (length-block m (padded dataset) (omega (arith, length_plain))))
      ∙ sym (ap is_padded (cut_last m (padded dataset) length_plain)) ∙ padded_is_good dataset

  last_damaged : last_byte plain_damaged ≡ pads (length dataset)
  last_damaged =
      ap last_byte (cut_last m plain_damaged length_damaged) ∙ last_of_block (take (16 * m) plain_damaged) (block (suc m) plain_damaged) (length-block m plain_damaged (omega (arith, length_damaged)))
      ∙ ap last_byte last_same
      ∙ sym (last_of_block (take (16 * m) (padded dataset)) (block (suc m) (padded dataset)) (length-block m (padded dataset) (omega (arith, length_plain))))
      ∙ sym (ap last_byte (cut_last m (padded dataset) length_plain)) ∙ last_padded dataset

  opened_damaged : unpadded plain_damaged ≡ take (length dataset) plain_damaged
  unfolding unpadded
  opened_damaged =
      let cut : length plain_damaged - pads (length dataset) ≡ length dataset = omega (arith, length_damaged) in
      ap (λ k. take (length plain_damaged - k) plain_damaged) last_damaged ∙ ap (λ k. take k plain_damaged) cut

  room : length dataset ≤ length plain_damaged
  room = omega (arith, length_damaged)

  as_long : length (take (length dataset) plain_damaged) ≡ length dataset
  as_long = length-take-le (length dataset) plain_damaged room

  -- by places from 0
  changed : (i : ℕ) → (suc i ≡ p) ⊎ (i ≡ p) → block (suc i) (take (length dataset) plain_damaged) ≡ block (suc i) dataset → ⊥
  changed i which same =
      let whole : 16 * i + 16 ≤ length dataset = ⊎_elim (λ e. omega (arith, low)) (λ e. omega (arith, low)) which in
      let at : block (suc i) plain_damaged ≡ block (suc i) (padded dataset) = sym (block-take i (length dataset) plain_damaged whole room) ∙ same ∙ sym (whole_block dataset i whole) in
      ⊎_elim (λ e. before_damage i e at) (λ e. here_damaged (subst (λ q. block (suc q) plain_damaged ≡ block (suc q) (padded dataset)) e at)) which

  unchanged : (i : ℕ) → (suc i ≡ p → ⊥) → (i ≡ p → ⊥) → block (suc i) (take (length dataset) plain_damaged) ≡ block (suc i) dataset
  unchanged i next here =
      same_block i (take (length dataset) plain_damaged) dataset as_long
      (λ k lt inside.
      let within : 16 * i + k < length dataset = omega (arith, as_long) in
      get_or-take (length dataset) plain_damaged (16 * i + k) 0 within ∙ sym (get_or-block i plain_damaged k lt) ∙ ap (λ b. get_or b k 0) (same_damaged i (omega arith) next here)
      ∙ get_or-block i (padded dataset) k lt
      ∙ get_or-padded dataset (16 * i + k) within)

  -- by the numbers of blocks
  both_change : (j : ℕ) → 1 ≤ j → (j + 1 ≡ suc p) ⊎ (j ≡ suc p) → block j (take (length dataset) plain_damaged) ≡ block j dataset → ⊥
  both_change zero one which same = omega arith
  both_change (suc i) one which same = changed i (⊎_elim (λ e. inl (omega arith)) (λ e. inr (omega arith)) which) same

  others_stay : (j : ℕ) → (j + 1 ≡ suc p → ⊥) → (j ≡ suc p → ⊥) → block j (take (length dataset) plain_damaged) ≡ block j dataset
  unfolding block
  others_stay zero next here = refl
  others_stay (suc i) next here = unchanged i (λ e. next (omega arith)) (λ e. here (omega arith))

  changed_at : ChangedAt (suc p) dataset (unpadded plain_damaged)
  changed_at = subst (ChangedAt (suc p) dataset) (sym opened_damaged) (record { long = as_long; changed = both_change; kept = others_stay })

  opens : (places : ℕ) → opening D key damaged places ≡ delivered (unpadded plain_damaged) places
  unfolding plain_damaged
  opens places = cond-true _ _ _ (ap is_sealed_length alt.long ∙ lawful_length E D key law lead start dataset sealed s) ∙ cond-true _ _ _ good_damaged

  pub withstood : (r : Result ℕ OpenRefusal) (before after : List ℕ) → Writes (opening D key damaged (length before)) r before after → WritesSuch (short_for dataset (length before)) (ChangedAt (suc p) dataset) r before after
  withstood r before after w =
      let L = length (unpadded plain_damaged) in
      let same : L ≡ length dataset = ap length opened_damaged ∙ as_long in
      let such : Writes (delivered (unpadded plain_damaged) (length before)) r before after = subst (λ m. Writes m r before after) (opens (length before)) w in
      ⊎_elim
      (λ short.
      subst (λ o. WritesSuch o (ChangedAt (suc p) dataset) r before after) (sym (cond-false _ _ _ (lt-leb (length dataset) (length before) short)))
      (subst (λ m. Writes m r before after) (cond-false _ _ _ (lt-leb L (length before) (omega arith))) such))
      (λ fits.
      subst (λ o. WritesSuch o (ChangedAt (suc p) dataset) r before after) (sym (cond-true _ _ _ (le-leb (length dataset) (length before) fits)))
      (unpadded plain_damaged, (changed_at, subst (λ m. Writes m r before after) (cond-true _ _ _ (le-leb L (length before) (omega arith))) such)))
      (cases_lt (length before) (length dataset))

-- the two promises of an opening
module _ (E D : List ℕ → List ℕ → List ℕ) (key : List ℕ) (law : Laws E D key) (sealed : List ℕ) (small : Small sealed) (r : Result ℕ OpenRefusal) (before after : List ℕ) (w : Writes (opening D key sealed (length before)) r before after) where
  pub recovers : Recovers E key sealed r before after
  recovers dataset lead start s = subst (λ m. Writes m r before after) (recovered E D key law lead start dataset sealed s (length before)) w

  pub withstands : Withstands E key sealed r before after
  unfolding Damaged
  withstands dataset lead start origin zero s damage inner = absurd damage
  withstands dataset lead start origin (suc p) s damage inner =
      withstood E D key law lead start dataset origin s sealed small p damage (omega arith) r before after w
