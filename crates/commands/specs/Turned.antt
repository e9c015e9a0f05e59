-- The line of a command that turned one file into another. Assumes nothing.
use Rattle.std.specs.Prelude.{ℕ, List, ◌++◌, codes, decimal}
use Rattle.commands.specs.declared.turned.Turned.{Turned}
use Rattle.commands.specs.declared.turned.Turned.TheVariants.{Sealed, Opened}

-- how many bytes it was given, and how many it wrote
abbrev pub counts : ℕ → ℕ → List ℕ
counts taken given = decimal taken ++ (codes " bytes in, " ++ (decimal given ++ codes " bytes out"))

abbrev pub turned_line : Turned → List ℕ
turned_line (Sealed taken given) = codes "sealed: " ++ counts taken given
turned_line (Opened taken given) = codes "opened: " ++ counts taken given
