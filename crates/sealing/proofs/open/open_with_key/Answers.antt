use Rattle.std.proofs.Common.{◌≡◌, length, subst, rules}
use Rattle.octets.specs.Bytes.{Small}
use Rattle.octets.specs.Output.{Writes}
use Rattle.octets.proofs.Fits.{written_within}
use Rattle.cipher.specs.Keyed.{laws}
use Rattle.sealing.specs.Open.{opening}
use Rattle.sealing.proofs.Striking.{recovers, withstands}
use Rattle.sealing.proofs.open.open_with_key.Goals as goal

pub returns : goal.returns
returns g c =
    let E = g.C.BlockCipher.enc in
    let D = g.C.BlockCipher.dec in
    let key = c.args.key.now.0 in
    let sealed = c.args.sealed.now in
    let before = c.args.out.now in
    let held = c.keyed-cipher.ensures.kept in
    let law = laws E D key c.keyed-cipher.ensures.lawful in
    let small : Small sealed = search rules in
    let written = subst (λ k. Writes (opening D k sealed (length before)) c.open_by.result before c.open_by.new.out) held c.open_by.ensures in
    let long : length c.open_by.new.out ≡ length before = search rules in
    record {
      written = written;
      within = written_within _ c.open_by.result before c.open_by.new.out long written;
      recovered = recovers E D key law sealed small c.open_by.result before c.open_by.new.out written;
      damaged = withstands E D key law sealed small c.open_by.result before c.open_by.new.out written;
    }
