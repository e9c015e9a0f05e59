-- The plain blocks of an opening, put together. Assumes nothing.
use Rattle.std.proofs.Common.{◌≡◌, ℕ, zero, suc, ◌+◌, ◌-◌, ◌*◌, ◌/◌, ◌%◌, ◌<◌, ◌≤◌, true, false, ◌&&◌, eqb, leb, List, [], ◌++◌, length, get_or, take, drop, Ok, Err, sym, refl, ap, ◌∙◌, subst, ap₂, append_assoc, append-nil, add-one, arith, length-append}
use Rattle.std.proofs.lemmas.List.{take_at, drop_at, drop-drop, length-take-le}
use Rattle.std.proofs.lemmas.Slice.{drop-append-drop}
use Rattle.std.proofs.lemmas.Bool.{cond-true, cond-false, and_parts, leb-true, eqb-true, le-leb, lt-leb}
use Rattle.std.specs.List.{range_with_len, flat_map}
use Rattle.std.specs.Simd.{first_chunks}
use Rattle.octets.specs.Bytes.{Bytes, Small, ◌⊕◌}
use Rattle.octets.specs.Output.{Writes}
use Rattle.octets.proofs.Xor.{Bytes-⊕}
use Rattle.sealing.specs.Blocks.{block}
use Rattle.sealing.specs.Open.{is_sealed_length, plain_block, plain, opening, delivered}
use Rattle.sealing.specs.Padding.{last_byte, is_padded, unpadded}
use Rattle.sealing.specs.declared.open.OpenRefusal.{OpenRefusal}
use Rattle.sealing.specs.declared.open.OpenRefusal.TheVariants.{Padding, Output}
use Rattle.sealing.proofs.Cutting.{chunk_is, bytes_block, block_at, block_past, take-append_add}
use Rattle.sealing.proofs.Padded.{last_of_block, good_by_block, good_count}

-- blocks by their number, from a on
module _ (f : ℕ → List ℕ) where
  joined_suc : (a n : ℕ) → flat_map f (range_with_len a (suc n)) ≡ flat_map f (range_with_len a n) ++ f (a + n)
  joined_suc a zero = append-nil (f a) ∙ ap f (omega arith)
  joined_suc a (suc n) =
      let on : (a + 1) + n ≡ a + suc n = omega arith in
      ap (λ l. f a ++ l) (joined_suc (a + 1) n ∙ ap (λ m. flat_map f (range_with_len (a + 1) n) ++ f m) on)
      ∙ sym (append_assoc (f a) (flat_map f (range_with_len (a + 1) n)) (f (a + suc n)))

  pub joined_one_more : (a n : ℕ) → flat_map f (range_with_len a (n + 1)) ≡ flat_map f (range_with_len a n) ++ f (a + n)
  joined_one_more a n = ap (λ m. flat_map f (range_with_len a m)) (add-one n) ∙ joined_suc a n

  pub length_blocks : (a n : ℕ) → ((j : ℕ) → j < n → length (f (a + j)) ≡ 16) → length (flat_map f (range_with_len a n)) ≡ 16 * n
  length_blocks a zero long = refl
  length_blocks a (suc n) long =
      let first : length (f a) ≡ 16 = ap (λ m. length (f m)) (omega arith) ∙ long 0 (omega arith) in
      let rest = length_blocks (a + 1) n (λ j lt. ap (λ m. length (f m)) (omega arith) ∙ long (suc j) (omega arith)) in
      omega (arith, length-append (f a) (flat_map f (range_with_len (a + 1) n)))

  pub block_of_blocks : (a n i : ℕ) → ((j : ℕ) → j < n → length (f (a + j)) ≡ 16) → i < n → block (suc i) (flat_map f (range_with_len a n)) ≡ f (a + i)
  block_of_blocks a zero i long lt = absurd (omega arith)
  block_of_blocks a (suc n) zero long lt =
      let first : length (f a) ≡ 16 = ap (λ m. length (f m)) (omega arith) ∙ long 0 (omega arith) in
      block_at 0 [] (f a) (flat_map f (range_with_len (a + 1) n)) refl first ∙ ap f (omega arith)
  block_of_blocks a (suc n) (suc i) long lt =
      let first : length (f a) ≡ 16 = ap (λ m. length (f m)) (omega arith) ∙ long 0 (omega arith) in
      block_past i (f a) (flat_map f (range_with_len (a + 1) n)) first
      ∙ block_of_blocks (a + 1) n i (λ j lt'. ap (λ m. length (f m)) (omega arith) ∙ long (suc j) (omega arith)) (omega arith)
      ∙ ap f (omega arith)

-- a lawful length has a block for the lead and one at the end
pub whole_blocks : (n : ℕ) → is_sealed_length n ≡ true → n ≡ 16 * (n / 16 - 2) + 32
whole_blocks n lawful =
    let p = and_parts (leb 32 n && leb n 10485792) (eqb (n % 16) 0) lawful in
    let low = leb-true 32 n (and_parts (leb 32 n) (leb n 10485792) p.0).0 in
    let even = eqb-true (n % 16) 0 p.1 in
    omega arith

-- by places from 0
pub plain-block_is : (D : List ℕ → List ℕ → List ℕ) (key sealed : List ℕ) (j : ℕ) → plain_block D key sealed (1 + j) ≡ D key (block (suc (suc j)) sealed) ⊕ block (suc j) sealed
plain-block_is D key sealed j =
    let here : 1 + j ≡ suc j = omega arith in
    let next : 1 + j + 1 ≡ suc (suc j) = omega arith in
    ap₂ (λ a b. D key (block a sealed) ⊕ block b sealed) next here

-- and of a slice's pieces
pub plain-block_of_chunks : (D : List ℕ → List ℕ → List ℕ) (key sealed : List ℕ) (pieces : List (List ℕ)) (i : ℕ) → pieces ≡ first_chunks 16 (length sealed / 16) sealed → i + 1 < length sealed / 16
    → D key (get_or pieces (i + 1) []) ⊕ get_or pieces i [] ≡ plain_block D key sealed (i + 1)
plain-block_of_chunks D key sealed pieces i so lt =
    let next : suc (i + 1) ≡ i + 1 + 1 = omega arith in
    let here : suc i ≡ i + 1 = omega arith in
    ap₂ (λ a b. D key a ⊕ b) (chunk_is sealed pieces (i + 1) so lt ∙ ap (λ m. block m sealed) next) (chunk_is sealed pieces i so (omega arith) ∙ ap (λ m. block m sealed) here)

module _ (D : List ℕ → List ℕ → List ℕ) (key sealed : List ℕ) (sixteen : (b : List ℕ) → Bytes 16 b → Bytes 16 (D key b)) (small : Small sealed) where
  pub bytes_plain-block : (j : ℕ) → 16 * j + 32 ≤ length sealed → Bytes 16 (plain_block D key sealed (1 + j))
  bytes_plain-block j h =
      subst (Bytes 16) (sym (plain-block_is D key sealed j))
      (Bytes-⊕ (sixteen (block (suc (suc j)) sealed) (bytes_block (suc j) sealed (omega arith) small)) (bytes_block j sealed (omega arith) small))

  module _ (n : ℕ) (count : length sealed ≡ 16 * n + 16) where
    each : (j : ℕ) → j < n → length (plain_block D key sealed (1 + j)) ≡ 16
    each j lt = (bytes_plain-block j (omega arith)).long

    pub plain_is : plain D key sealed ≡ flat_map (plain_block D key sealed) (range_with_len 1 n)
    unfolding plain
    plain_is = ap (λ m. flat_map (plain_block D key sealed) (range_with_len 1 m)) (omega arith)

    pub length_front : (i : ℕ) → i ≤ n → length (flat_map (plain_block D key sealed) (range_with_len 1 i)) ≡ 16 * i
    length_front i le = length_blocks (plain_block D key sealed) 1 i (λ j lt. each j (omega arith))

    pub length-plain : length (plain D key sealed) ≡ 16 * n
    length-plain = ap length plain_is ∙ length_front n (omega arith)

    pub block-plain : (i : ℕ) → i < n → block (suc i) (plain D key sealed) ≡ plain_block D key sealed (1 + i)
    block-plain i lt = ap (block (suc i)) plain_is ∙ block_of_blocks (plain_block D key sealed) 1 n i each lt

    -- one block more in the output
    pub opened_more : (i : ℕ) → i < n → (b out before after : List ℕ) → b ≡ plain_block D key sealed (i + 1) → out ≡ flat_map (plain_block D key sealed) (range_with_len 1 i) ++ drop (16 * i) before → after ≡ take (16 * i) out ++ (b ++ drop (16 * i + 16) out) → after ≡ flat_map (plain_block D key sealed) (range_with_len 1 (i + 1)) ++ drop (16 * (i + 1)) before
    opened_more i lt b out before after is so put =
        let f = plain_block D key sealed in
        let front = flat_map f (range_with_len 1 i) in
        let long = length_front i (omega arith) in
        let next : 16 * i + 16 ≡ 16 * (i + 1) = omega arith in
        let here : i + 1 ≡ 1 + i = omega arith in
        put
        ∙ ap (λ o. take (16 * i) o ++ (b ++ drop (16 * i + 16) o)) so
        ∙ ap₂ (λ x y. x ++ (b ++ y)) (take_at front (drop (16 * i) before) (16 * i) long) (drop-append-drop (16 * i) before front (16 * i + 16) (omega arith) long)
        ∙ ap₂ (λ x m. front ++ (x ++ drop m before)) (is ∙ ap f here) next
        ∙ sym (append_assoc front (f (1 + i)) (drop (16 * (i + 1)) before))
        ∙ ap (λ x. x ++ drop (16 * (i + 1)) before) (sym (joined_one_more f 1 i))

  -- the last block decides
  module _ (whole : ℕ) (count : length sealed ≡ 16 * whole + 32) (lawful : is_sealed_length (length sealed) ≡ true) (last : List ℕ) (long : length last ≡ 16) (is : last ≡ plain_block D key sealed (whole + 1)) where
    abbrev pub front : List ℕ
    front = flat_map (plain_block D key sealed) (range_with_len 1 whole)

    split : plain D key sealed ≡ front ++ last
    split =
        let f = plain_block D key sealed in
        let here : 1 + whole ≡ whole + 1 = omega arith in
        plain_is (whole + 1) (omega arith) ∙ joined_one_more f 1 whole ∙ ap (λ x. front ++ x) (ap f here ∙ sym is)

    front_long : length front ≡ 16 * whole
    front_long = length_front (whole + 1) (omega arith) whole (omega arith)

    pub bad_padding : (places : ℕ) → is_padded last ≡ false → opening D key sealed places ≡ Err Padding
    bad_padding places bad = cond-true _ _ _ lawful ∙ cond-false _ _ _ (ap is_padded split ∙ good_by_block front last long ∙ bad)

    module _ (n : ℕ) (good : is_padded last ≡ true) (counted : n ≡ last_byte last) where
      at_most : n ≤ 16
      at_most = omega (arith, good_count last good, counted)

      unpadded_is : unpadded (plain D key sealed) ≡ front ++ take (16 - n) last
      unfolding unpadded
      unpadded_is =
          let same : last_byte (front ++ last) ≡ n = last_of_block front last long ∙ sym counted in
          let both = length-append front last in
          let cut : length (front ++ last) - n ≡ length front + (16 - n) = omega (arith, both, long, at_most) in
          ap unpadded split
          ∙ ap (λ m. take (length (front ++ last) - m) (front ++ last)) same
          ∙ ap (λ m. take m (front ++ last)) cut
          ∙ take-append_add front last (16 - n)

      as_long : length (unpadded (plain D key sealed)) ≡ 16 * whole + (16 - n)
      as_long =
          ap length unpadded_is ∙ length-append front (take (16 - n) last)
          ∙ ap₂ (λ x y. x + y) front_long (length-take-le (16 - n) last (omega (arith, long)))

      delivers : (places : ℕ) → opening D key sealed places ≡ delivered (unpadded (plain D key sealed)) places
      delivers places = cond-true _ _ _ lawful ∙ cond-true _ _ _ (ap is_padded split ∙ good_by_block front last long ∙ good)

      pub no_room : (places : ℕ) → places < 16 * whole + (16 - n) → opening D key sealed places ≡ Err (Output (record {}))
      no_room places short = delivers places ∙ cond-false _ _ _ (lt-leb (length (unpadded (plain D key sealed))) places (omega (arith, as_long)))

      pub opened_all : (out before part after : List ℕ) → 16 * whole + (16 - n) ≤ length before → out ≡ front ++ drop (16 * whole) before → part ≡ take (16 - n) last → after ≡ take (16 * whole) out ++ (part ++ drop (16 - n) (drop (16 * whole) out)) → Writes {E = OpenRefusal} (opening D key sealed (length before)) (Ok (16 * whole + (16 - n))) before after
      opened_all out before part after room so cut put =
          let dataset = unpadded (plain D key sealed) in
          let meaning = delivers (length before) ∙ cond-true _ _ _ (le-leb (length dataset) (length before) (omega (arith, as_long))) in
          let stands : after ≡ dataset ++ drop (length dataset) before =
          put
          ∙ ap (λ o. take (16 * whole) o ++ (part ++ drop (16 - n) (drop (16 * whole) o))) so
          ∙ ap₂ (λ x y. x ++ (part ++ drop (16 - n) y)) (take_at front (drop (16 * whole) before) (16 * whole) front_long) (drop_at front (drop (16 * whole) before) (16 * whole) front_long)
          ∙ ap₂ (λ x y. front ++ (x ++ y)) cut (drop-drop (16 - n) (16 * whole) before)
          ∙ sym (append_assoc front (take (16 - n) last) (drop (16 * whole + (16 - n)) before))
          ∙ ap₂ (λ x m. x ++ drop m before) (sym unpadded_is) (sym as_long) in
          subst (λ m. Writes {E = OpenRefusal} m (Ok (16 * whole + (16 - n))) before after) (sym meaning) (ap Ok (sym as_long), stands)
