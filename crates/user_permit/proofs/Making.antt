-- The text that is made is lawful, and its first digits tell the block. Assumes nothing.
use Rattle.std.proofs.Common.{◌≡◌, ℕ, ◌*◌, ◌≤◌, true, eqb, List, ◌++◌, length, take, drop, Ok, sym, ap, ◌∙◌, subst, append_assoc, arith, length-append}
use Rattle.std.proofs.lemmas.List.{take_at, drop_at}
use Rattle.std.proofs.lemmas.Bool.{and_parts, eqb-true, cond-true, le-leb}
use Rattle.octets.specs.Bytes.{Bytes, every}
use Rattle.octets.specs.Hex.{Digits, hex, unhex}
use Rattle.octets.proofs.Digits.{length-hex, hex_is_digits, hex_undone}
use Rattle.octets.specs.Output.{Writes}
use Rattle.fields.specs.ManufacturerId.{is_manufacturer_id, is_id_character}
use Rattle.user_permit.specs.Crc32.{crc32}
use Rattle.user_permit.specs.Hardware.{hardware_id}
use Rattle.user_permit.specs.Make.{making}
use Rattle.user_permit.specs.declared.make.MakeRefusal.{MakeRefusal}
use Rattle.user_permit.specs.Lawful.{Lawful, big_endian, checksum_of, permit_text}
use Rattle.user_permit.proofs.Agreement.{big_endian_small}
use Rattle.user_permit.proofs.Composing.{length-checksum_of}
use Rattle.user_permit.proofs.Sets.{from_parts}

checksum_digits : (t : List ℕ) → Digits (checksum_of t)
unfolding checksum_of
checksum_digits t = hex_is_digits (big_endian (crc32 t)) (big_endian_small (crc32 t))

module _ (encrypted id : List ℕ) (block : Bytes 16 encrypted) (rule : is_manufacturer_id id ≡ true) where
  long_digits : length (hex encrypted) ≡ 32
  long_digits = length-hex encrypted ∙ ap (λ n. 2 * n) block.long

  long_id : length id ≡ 6
  long_id = eqb-true (length id) 6 (and_parts (eqb (length id) 6) _ rule).0

  pub length-permit_text : length (permit_text encrypted id) ≡ 46
  unfolding permit_text
  length-permit_text =
      let digits = hex encrypted in
      let sum = checksum_of digits in
      let a = length-append digits (sum ++ id) in
      let b = length-append sum id in
      let c = length-checksum_of digits in
      omega (arith, a, b, c, long_digits, long_id)

  front : take 32 (permit_text encrypted id) ≡ hex encrypted
  unfolding permit_text
  front = take_at (hex encrypted) _ 32 long_digits

  sum : take 8 (drop 32 (permit_text encrypted id)) ≡ checksum_of (hex encrypted)
  unfolding permit_text
  sum = ap (take 8) (drop_at (hex encrypted) _ 32 long_digits) ∙ take_at (checksum_of (hex encrypted)) id 8 (length-checksum_of (hex encrypted))

  back : drop 40 (permit_text encrypted id) ≡ id
  unfolding permit_text
  back =
      let digits = hex encrypted in
      let long = length-append digits (checksum_of digits) in
      ap (drop 40) (sym (append_assoc digits (checksum_of digits) id))
      ∙ drop_at (digits ++ checksum_of digits) id 40 (omega (arith, long, long_digits, length-checksum_of digits))

  pub permit_lawful : Lawful (permit_text encrypted id)
  permit_lawful = (
    length-permit_text,
    from_parts _ (record {
      encrypted = subst Digits (sym front) (hex_is_digits encrypted block.small);
      checksum = subst Digits (sym sum) (checksum_digits (hex encrypted));
      manufacturer = ap (every is_id_character) back ∙ (and_parts (eqb (length id) 6) _ rule).1;
    }),
    sum ∙ ap checksum_of (sym front),
  )

  pub permit_block : unhex (take 32 (permit_text encrypted id)) ≡ encrypted
  permit_block = ap unhex front ∙ hex_undone encrypted block.small

-- an output at whose front the text stands: `read` is the manufacturer ID as it was read, `encrypted` the block as it came
module _ (E D : List ℕ → List ℕ → List ℕ) (id key hardware before after read encrypted : List ℕ) (rule : is_manufacturer_id id ≡ true) (same : read ≡ id) (room : 46 ≤ length before) (told : encrypted ≡ E key hardware) (block : Bytes 16 encrypted) (undoes : D key encrypted ≡ hardware) (is : after ≡ permit_text encrypted read ++ drop 46 before) where
  made : List ℕ
  made = permit_text encrypted id

  stands : after ≡ made ++ drop 46 before
  unfolding made
  stands = is ∙ ap (λ i. permit_text encrypted i ++ drop 46 before) same

  length_made : length made ≡ 46
  unfolding made
  length_made = length-permit_text encrypted id block rule

  first : take 46 after ≡ made
  first = ap (take 46) stands ∙ take_at made (drop 46 before) 46 length_made

  pub made_written : Writes (making E id key hardware (length before)) (Ok 46) before after
  unfolding made
  made_written =
      let meaning =
      cond-true _ _ _ rule ∙ cond-true _ _ _ (le-leb 46 (length before) room) ∙ ap (λ e. Ok (permit_text e id)) (sym told) in
      subst (λ m. Writes {E = MakeRefusal} m (Ok 46) before after) (sym meaning)
      (ap Ok (sym length_made), stands ∙ ap (λ n. made ++ drop n before) (sym length_made))

  pub made_lawful : Lawful (take 46 after)
  unfolding made
  made_lawful = subst Lawful (sym first) (permit_lawful encrypted id block rule)

  pub made_undone : hardware_id D key (take 46 after) ≡ hardware
  unfolding made
  made_undone = ap (λ t. D key (unhex (take 32 t))) first ∙ ap (D key) (permit_block encrypted id block rule) ∙ undoes

  pub all_made : Writes (making E id key hardware (length before)) (Ok 46) before after × Lawful (take 46 after) × (hardware_id D key (take 46 after) ≡ hardware)
  all_made = (made_written, made_lawful, made_undone)
