use Rattle.std.proofs.Common.{◌≤◌, length, refl, rules}
use Rattle.user_permit.proofs.Making.{all_made}
use Rattle.user_permit.proofs.make.make.Goals as goal

pub returns : goal.returns
returns g c =
    let before = c.args.out.now in
    let room : 46 ≤ length before = search rules in
    let read = c.in_ok-id.ensures in
    let told = c.encipher-encrypted.ensures in
    let made =
    all_made g.C.BlockCipher.enc g.C.BlockCipher.dec c.args.id.now c.args.key.now.0 c.args.hardware.now.0 before _ _ _
    read.0 read.1 room told.value told.sixteen told.undone c.compose.ensures in
    record { written = made.0; count = refl; lawful = λ _. made.1; undone = λ _. made.2 }
