use Rattle.std.proofs.Common.{◌≡◌, ℕ, ◌+◌, ◌-◌, ◌*◌, ◌/◌, ◌<◌, ◌≤◌, true, false, List, [], ◌++◌, length, get_or, take, drop, Err, sym, refl, ap, ◌∙◌, subst, arith, rules}
use Rattle.std.proofs.lemmas.List.{get_or-take, get_or-drop}
use Rattle.std.specs.List.{range_with_len, flat_map}
use Rattle.std.specs.Simd.{first_chunks}
use Rattle.octets.specs.Bytes.{Small, ◌⊕◌}
use Rattle.octets.specs.Output.{Writes}
use Rattle.cipher.specs.Keyed.{laws}
use Rattle.sealing.specs.Open.{is_sealed_length, plain_block}
use Rattle.sealing.specs.Padding.{last_byte, is_padded}
use Rattle.sealing.specs.declared.open.OpenRefusal.{OpenRefusal}
use Rattle.sealing.specs.declared.open.OpenRefusal.TheVariants.{Output, Padding}
use Rattle.sealing.proofs.Opened.{whole_blocks, plain-block_of_chunks, opened_more, bad_padding, no_room, opened_all}
use Rattle.sealing.proofs.Padded.{good_count}
use Rattle.sealing.proofs.open.open_by.Goals as goal

-- the slice's pieces are the sealed blocks: all but two of them, counted by `whole`, lie before the last plain block
module _ (D : List ℕ → List ℕ → List ℕ) (key sealed : List ℕ) (pieces : List (List ℕ)) (so : pieces ≡ first_chunks 16 (length sealed / 16) sealed) (many : length pieces ≡ length sealed / 16) (lawful : is_sealed_length (length sealed) ≡ true) where
  counted : length sealed ≡ 16 * (length pieces - 2) + 32
  counted = omega (arith, whole_blocks (length sealed) lawful)

  last_is : (last : List ℕ) → last ≡ D key (get_or pieces (length pieces - 2 + 1) []) ⊕ get_or pieces (length pieces - 2) [] → last ≡ plain_block D key sealed (length pieces - 2 + 1)
  last_is last is = is ∙ plain-block_of_chunks D key sealed pieces (length pieces - 2) so (omega (arith, counted))

  -- the piece of a turn, out of those from the second on
  turn_is : (i n : ℕ) → i < length pieces - 2 → i < n → (b : List ℕ) → b ≡ D key (get_or (take n (drop 1 pieces)) i []) ⊕ get_or pieces i [] → b ≡ plain_block D key sealed (i + 1)
  turn_is i n lt within b is =
      let on : 1 + i ≡ i + 1 = omega arith in
      is ∙ ap (λ p. D key p ⊕ get_or pieces i []) (get_or-take n (drop 1 pieces) i [] within ∙ get_or-drop 1 pieces i [] ∙ ap (λ m. get_or pieces m []) on)
      ∙ plain-block_of_chunks D key sealed pieces i so (omega (arith, counted))

pub returns-in_err-padding : goal.returns-in_err-padding
returns-in_err-padding g c =
    let D = g.C.BlockCipher.dec in
    let key = g.C.BlockCipher.held c.args.cipher.now in
    let sealed = c.args.sealed.now in
    let out = c.args.out.now in
    let blocks = c.as_chunks.result.0.now in
    let front = c.as_chunks.ensures.front in
    let many = c.as_chunks.ensures.front_len in
    let small : Small sealed = search rules in
    let long : length c.plain_block-last.result ≡ 16 = search rules in
    let lawful = sym c.is_sealed_length.ensures ∙ c.if-not-is_sealed_length.false in
    let bad : is_padded c.plain_block-last.result ≡ false = search rules in
    let is : c.from_residual.result ≡ Err Padding = search rules in
    let meaning = bad_padding D key sealed (laws _ D key c.requires).dec_sixteen small (length blocks - 2) (counted D key sealed blocks front many lawful) lawful _ long (last_is D key sealed blocks front many lawful _ c.plain_block-last.ensures) (length out) bad in
    subst (λ m. Writes {E = OpenRefusal} m c.from_residual.result out out) (sym meaning) (is, refl)

pub overflow_sub-rest : goal.overflow_sub-rest
overflow_sub-rest g c =
    let good : is_padded c.plain_block-last.result ≡ true = search rules in
    let count : c.in_ok-padding.padding ≡ last_byte c.plain_block-last.result = search rules in
    omega (arith, good_count _ good, count)

pub returns-in_err-room_for : goal.returns-in_err-room_for
returns-in_err-room_for g c =
    let D = g.C.BlockCipher.dec in
    let key = g.C.BlockCipher.held c.args.cipher.now in
    let sealed = c.args.sealed.now in
    let out = c.args.out.now in
    let blocks = c.as_chunks.result.0.now in
    let front = c.as_chunks.ensures.front in
    let many = c.as_chunks.ensures.front_len in
    let small : Small sealed = search rules in
    let long : length c.plain_block-last.result ≡ 16 = search rules in
    let lawful = sym c.is_sealed_length.ensures ∙ c.if-not-is_sealed_length.false in
    let good : is_padded c.plain_block-last.result ≡ true = search rules in
    let count : c.in_ok-padding.padding ≡ last_byte c.plain_block-last.result = search rules in
    let short : length out < 16 * (length blocks - 2) + (16 - c.in_ok-padding.padding) = search rules in
    let is : c.from_residual-in_err-room_for.result ≡ Err (Output (record {})) = search rules in
    let meaning = no_room D key sealed (laws _ D key c.requires).dec_sixteen small (length blocks - 2) (counted D key sealed blocks front many lawful) lawful _ long (last_is D key sealed blocks front many lawful _ c.plain_block-last.ensures) c.in_ok-padding.padding good count (length out) short in
    subst (λ m. Writes {E = OpenRefusal} m c.from_residual-in_err-room_for.result out out) (sym meaning) (is, refl)

pub loop-i-preserved : goal.loop-i-preserved
loop-i-preserved g c =
    let D = g.C.BlockCipher.dec in
    let key = g.C.BlockCipher.held c.args.cipher.now in
    let sealed = c.args.sealed.now in
    let blocks = c.as_chunks.result.0.now in
    let front = c.as_chunks.ensures.front in
    let many = c.as_chunks.ensures.front_len in
    let small : Small sealed = search rules in
    let lawful = sym c.is_sealed_length.ensures ∙ c.if-not-is_sealed_length.false in
    let turn : c.loop-i.i < length blocks - 2 = search rules in
    let is = turn_is D key sealed blocks front many lawful c.loop-i.i _ turn (omega arith) c.plain_block-plain.result c.plain_block-plain.ensures in
    opened_more D key sealed (laws _ D key c.requires).dec_sixteen small (length blocks - 2 + 1) (omega (arith, counted D key sealed blocks front many lawful)) c.loop-i.i (omega arith) c.plain_block-plain.result c.loop-i.out c.args.out.now c.store.new.out is c.loop-i.invariant c.store.ensures

pub returns : goal.returns
returns g c =
    let D = g.C.BlockCipher.dec in
    let key = g.C.BlockCipher.held c.args.cipher.now in
    let sealed = c.args.sealed.now in
    let before = c.args.out.now in
    let blocks = c.as_chunks.result.0.now in
    let front = c.as_chunks.ensures.front in
    let many = c.as_chunks.ensures.front_len in
    let small : Small sealed = search rules in
    let long : length c.plain_block-last.result ≡ 16 = search rules in
    let lawful = sym c.is_sealed_length.ensures ∙ c.if-not-is_sealed_length.false in
    let good : is_padded c.plain_block-last.result ≡ true = search rules in
    let count : c.in_ok-padding.padding ≡ last_byte c.plain_block-last.result = search rules in
    let whole = length blocks - 2 in
    let rest = 16 - c.in_ok-padding.padding in
    let room : 16 * whole + rest ≤ length before = search rules in
    let all : c.loop-i.i ≡ whole = search rules in
    let wide : 16 * whole + rest - 16 * whole ≡ rest = omega arith in
    let cut : rest - 0 ≡ rest = omega arith in
    let out = c.loop-i.invariant ∙ ap (λ m. flat_map (plain_block D key sealed) (range_with_len 1 m) ++ drop (16 * m) before) all in
    let part = c.copy_from_slice.ensures.after ∙ ap (λ m. take m c.plain_block-last.result) cut in
    let put = ap (λ m. take (16 * whole) c.loop-i.out ++ (c.copy_from_slice.new.self ++ drop m (drop (16 * whole) c.loop-i.out))) wide in
    opened_all D key sealed (laws _ D key c.requires).dec_sixteen small whole (counted D key sealed blocks front many lawful) lawful _ long (last_is D key sealed blocks front many lawful _ c.plain_block-last.ensures) c.in_ok-padding.padding good count c.loop-i.out before _ _ room out part put
