-- The two lines of the sheet, and what its writer answers and leaves in the output.
use Rattle.std.specs.Prelude.{ℕ, cond, List, ◌++◌, length, drop, Ok, Err, codes, decimal, Result, nat_le}
use Rattle.settings.specs.declared.names.Message.TheVariants.{Gga, Gll, Rmc, Zda, TimeUtc}
use Rattle.commands.specs.Settings.{Configuration}
use Rattle.sheets.specs.declared.refusal.Refusal.{Refusal}
use Rattle.sheets.specs.declared.refusal.Refusal.TheVariants.{OutputTooShort}

-- the values of eight settings, each in decimal digits
abbrev pub values_line : Configuration → List ℕ
values_line c =
    decimal c.baud
    ++ codes ","
    ++ decimal (c.rate Gga)
    ++ codes ","
    ++ decimal (c.rate Gll)
    ++ codes ","
    ++ decimal (c.rate Rmc)
    ++ codes ","
    ++ decimal (c.rate Zda)
    ++ codes ","
    ++ decimal (c.rate TimeUtc)
    ++ codes ","
    ++ decimal c.interval
    ++ codes ","
    ++ decimal c.systems
    ++ codes "\n"

-- the names of the settings on one line, and on the next their values in that order
abbrev pub sheet_text : Configuration → List ℕ
sheet_text c = codes "baud,gga,gll,rmc,zda,utc,interval,systems\n" ++ values_line c

-- the number of the refusal
abbrev pub number : Refusal → ℕ
number OutputTooShort = 6

-- a text at the output's start and its length, every other byte as before; an output below 96 bytes is refused, every byte as before
abbrev pub text_written : List ℕ → List ℕ → Result ℕ Refusal × List ℕ
text_written text out = cond (nat_le 96 (length out)) (Ok (length text), text ++ drop (length text) out) (Err OutputTooShort, out)

-- the sheet's writer
abbrev pub sheet_written : Configuration → List ℕ → Result ℕ Refusal × List ℕ
sheet_written c out = text_written (sheet_text c) out
