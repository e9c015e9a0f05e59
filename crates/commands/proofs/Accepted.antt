-- A lawful text, checked. Assumes nothing.
use Rattle.std.proofs.Common.{ℕ, List, Result, Ok, Err, refl}
use Rattle.std.specs.Result.{IsOk}
use Rattle.user_permit.specs.Check.{Checked}
use Rattle.user_permit.specs.Lawful.{Lawful}
use Rattle.user_permit.specs.declared.check.CheckRefusal.{CheckRefusal}
use Rattle.user_permit.specs.declared.permit.UserPermit.{UserPermit}
use Rattle.user_permit.proofs.Accepting.{not_refused}

pub accepted : (t : List ℕ) (r : Result UserPermit CheckRefusal) → Lawful t → Checked t r → IsOk r
accepted t (Ok permit) lawful told = refl
accepted t (Err refusal) lawful told = absurd (not_refused t refusal lawful told)
