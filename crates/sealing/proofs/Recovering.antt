-- What was sealed under a key opens under it. Assumes nothing.
use Rattle.std.proofs.Common.{◌≡◌, ℕ, suc, ◌+◌, ◌*◌, ◌/◌, ◌<◌, ◌≤◌, true, List, length, sym, ap, ◌∙◌, add-one, arith}
use Rattle.std.proofs.lemmas.Bool.{and_from, cond-true, le-leb, eq-eqb}
use Rattle.octets.specs.Bytes.{Bytes, ◌⊕◌}
use Rattle.octets.proofs.Xor.{Bytes-⊕, ⊕_undo}
use Rattle.cipher.specs.Keyed.{Laws}
use Rattle.sealing.specs.Blocks.{block}
use Rattle.sealing.specs.Padding.{padded, unpadded, is_padded}
use Rattle.sealing.specs.Open.{is_sealed_length, plain, opening, delivered}
use Rattle.sealing.specs.Seal.{Sealed}
use Rattle.sealing.proofs.Cutting.{bytes_block, same_blocks}
use Rattle.sealing.proofs.Opened.{plain-block_is, length-plain, block-plain}
use Rattle.sealing.proofs.Padded.{length-padded, small_padded, padded_is_good, unpadded-padded}

module _ (E D : List ℕ → List ℕ → List ℕ) (key : List ℕ) (law : Laws E D key) where
  module _ (lead start dataset sealed : List ℕ) (s : Sealed E key lead start dataset sealed) where
    -- the blocks of the padded dataset
    abbrev pub blocks : ℕ
    blocks = length dataset / 16 + 1

    pub count : length sealed ≡ 16 * blocks + 16
    count = s.long ∙ (omega arith)

    pub lawful_length : is_sealed_length (length sealed) ≡ true
    lawful_length =
        let within = s.within in
        and_from _ _ (and_from _ _ (le-leb 32 (length sealed) (omega (arith, count))) (le-leb (length sealed) 10485792 (omega (arith, count, within)))) (eq-eqb _ _ (omega (arith, count)))

    pub bytes_padded-block : (j : ℕ) → j < blocks → Bytes 16 (block (suc j) (padded dataset))
    bytes_padded-block j lt = bytes_block j (padded dataset) (omega (arith, length-padded dataset)) (small_padded dataset s.given)

    pub sealed_later : (j : ℕ) → j < blocks → block (suc (suc j)) sealed ≡ E key (block (suc j) (padded dataset) ⊕ block (suc j) sealed)
    sealed_later j lt = ap (λ m. block m sealed) (sym (add-one (suc j))) ∙ s.later (suc j) (omega arith) (omega (arith, length-padded dataset))

    pub bytes_sealed_block : (j : ℕ) → j ≤ blocks → Bytes 16 (block (suc j) sealed)
    bytes_sealed_block j le = bytes_block j sealed (omega (arith, count)) s.made

    -- D takes a sealed block to what was enciphered
    pub summed : (j : ℕ) → j < blocks → D key (block (suc (suc j)) sealed) ≡ block (suc j) (padded dataset) ⊕ block (suc j) sealed
    summed j lt = ap (D key) (sealed_later j lt) ∙ law.deciphered _ (Bytes-⊕ (bytes_padded-block j lt) (bytes_sealed_block j (omega arith)))

    pub plain-block : (j : ℕ) → j < blocks → D key (block (suc (suc j)) sealed) ⊕ block (suc j) sealed ≡ block (suc j) (padded dataset)
    plain-block j lt = ap (λ x. x ⊕ block (suc j) sealed) (summed j lt) ∙ ⊕_undo (bytes_padded-block j lt) (bytes_sealed_block j (omega arith))

    pub plain_is_padded : plain D key sealed ≡ padded dataset
    plain_is_padded =
        same_blocks blocks (plain D key sealed) (padded dataset) (length-plain D key sealed law.dec_sixteen s.made blocks count) (length-padded dataset ∙ (omega arith))
        (λ j lt. block-plain D key sealed law.dec_sixteen s.made blocks count j lt ∙ plain-block_is D key sealed j ∙ plain-block j lt)

    pub dataset_is : unpadded (plain D key sealed) ≡ dataset
    dataset_is = ap unpadded plain_is_padded ∙ unpadded-padded dataset

    pub recovered : (places : ℕ) → opening D key sealed places ≡ delivered dataset places
    recovered places =
        cond-true _ _ _ lawful_length
        ∙ cond-true _ _ _ (ap is_padded plain_is_padded ∙ padded_is_good dataset)
        ∙ ap (λ d. delivered d places) dataset_is

  pub distinct : (dataset lead start other lead' start' bytes : List ℕ) → Sealed E key lead start dataset bytes → Sealed E key lead' start' other bytes → other ≡ dataset
  distinct dataset lead start other lead' start' bytes s t =
      sym (dataset_is lead' start' other bytes t) ∙ dataset_is lead start dataset bytes s
