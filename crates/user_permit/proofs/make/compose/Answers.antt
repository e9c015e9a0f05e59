use Rattle.std.proofs.Common.{◌≡◌, ◌*◌, length, drop, ap, ◌∙◌, append_assoc, arith, rules}
use Rattle.std.proofs.lemmas.List.{drop-drop, take_all}
use Rattle.std.proofs.lemmas.Grind.{common_steps}
use Rattle.std.proofs.lemmas.Bool.Decides.{nat_tests}
use Rattle.octets.specs.Hex.{hex}
use Rattle.octets.proofs.Digits.{length-hex}
use Rattle.octets.proofs.Fits.{fills}
use Rattle.user_permit.specs.Crc32.{crc32}
use Rattle.user_permit.specs.Lawful.{big_endian, checksum_of, permit_text}
use Rattle.user_permit.proofs.make.compose.Goals as goal

pub unwrap-requires : goal.unwrap-requires
unwrap-requires c = grind (arith, common_steps, nat_tests, length-hex)

pub unwrap-requires-2 : goal.unwrap-requires-2
unwrap-requires-2 c = grind (arith, common_steps, nat_tests, length-hex)

pub returns : goal.returns
unfolding permit_text checksum_of
returns c =
    let e = c.args.encrypted.now in
    let room : 2 * 16 ≡ length c.split_at_mut-digits.result.0.now = search rules in
    let room-sum : 2 * 4 ≡ length c.split_at_mut-sum.result.0.now = search rules in
    let digits = fills _ (hex e) _ _ (length-hex e ∙ ap (λ n. 2 * n) c.told-encrypted ∙ room) c.encode.ensures in
    let long : length (hex e) ≡ 32 = length-hex e ∙ ap (λ n. 2 * n) c.told-encrypted in
    let bytes : c.to_be_bytes.result ≡ big_endian (crc32 (hex e)) = c.to_be_bytes.ensures ∙ ap big_endian (c.crc32.ensures.value ∙ ap crc32 (grind (arith, nat_tests, common_steps, digits, long, take_all))) in
    let sum = fills _ (hex c.to_be_bytes.result) _ _ (length-hex _ ∙ ap (λ l. 2 * length l) bytes ∙ room-sum) c.encode-2.ensures ∙ ap hex bytes in
    let id = c.copy_from_slice.ensures.after ∙ c.text.ensures in
    let behind = ap (drop 6) (c.split_at_mut-sum.ensures.back ∙ ap (drop 8) c.split_at_mut-digits.ensures.back) in
    rw (digits, sum, id, behind) (simp (append_assoc, drop-drop))
