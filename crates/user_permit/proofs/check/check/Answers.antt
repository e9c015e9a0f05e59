use Rattle.std.proofs.Common.{◌≡◌, length, take, drop, sym, refl, ap, ◌∙◌, subst, rules}
use Rattle.std.proofs.lemmas.Slice.Eq.{slice_eq-Decides}
use Rattle.std.proofs.lemmas.Bool.{not-true, not-false}
use Rattle.std.proofs.lemmas.Bool.Decides.{not_from_Decides, Decides-eqb}
use Rattle.user_permit.specs.Check.{PartsOf}
use Rattle.user_permit.specs.Crc32.{crc32}
use Rattle.user_permit.specs.Lawful.{Lawful, big_endian, checksum_of}
use Rattle.user_permit.proofs.Agreement.{agrees, same_read}
use Rattle.user_permit.proofs.Altering.{unaltered}
use Rattle.user_permit.proofs.check.check.Goals as goal
use Rattle.user_permit.proofs.check.check.Goals.{After-ne, Else-ne}

same : (c : After-ne) → c.in_ok-text.text ≡ c.args.text.now
same c = search rules

long : (c : After-ne) → length c.in_ok-text.text ≡ 46
long c = search rules

told : (c : After-ne) → PartsOf c.in_ok-text.text c.in_ok-parts.parts
told c = search rules

-- the computed checksum, at the text that was given
computed : (c : After-ne) → c.to_be_bytes.result ≡ big_endian (crc32 (take 32 c.in_ok-text.text))
computed c = c.to_be_bytes.ensures ∙ ap big_endian c.crc32.ensures.value

pub returns-then-ne-clause-answer : goal.returns-then-ne-clause-answer
returns-then-ne-clause-answer c =
    let before = (goal.at.returns-then-ne-clause-answer c).After-ne in
    let parts = told before in
    let differ = not_from_Decides _ (slice_eq-Decides Decides-eqb _ _ _ refl) (not-true _ (sym c.if-ne.ensures)) in
    let disagree : take 8 (drop 32 c.in_ok-text.text) ≡ checksum_of (take 32 c.in_ok-text.text) → ⊥ =
    λ e. differ (same_read _ _ _ parts.checksum.0 parts.checksum.1 (computed before) e) in
    rw (← same before) (long before, parts.inside, disagree)

-- a text that passed both tests is lawful
lawful : (c : Else-ne) → Lawful c.in_ok-text.text
lawful c =
    let before = (goal.at.Else-ne c).After-ne in
    let parts = told before in
    let equal = (slice_eq-Decides Decides-eqb _ _ _ refl).0 (not-false _ (sym c.if-ne.ensures)) in
    (long before, parts.inside, agrees _ _ _ parts.checksum.0 parts.checksum.1 (computed before) equal)

pub invariant_of-result : goal.invariant_of-result
invariant_of-result c =
    let parts = told (goal.at.invariant_of-result c).After-ne in
    record { lawful = lawful (goal.at.invariant_of-result c).Else-ne; block = parts.encrypted; maker = parts.manufacturer }

pub returns-clause-altered : goal.returns-clause-altered
returns-clause-altered c =
    let before = (goal.at.returns-clause-altered c).After-ne in
    let whole = subst Lawful (same before) (lawful (goal.at.returns-clause-altered c).Else-ne) in
    λ t h a. absurd (unaltered t _ h whole a)
