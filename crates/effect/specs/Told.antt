-- What a verdict tells (02 Tickets 2 and 4): the data that the caller gets in the response that it lends.
use Rattle.std.specs.Prelude.{ℕ, ◌+◌, ◌≤◌, cond, List, [], eqb, length, Ok, Err}
use Rattle.laws.specs.Lists.{part}
use Rattle.image.specs.Layout.{rec_at, none}
use Rattle.verdict.specs.Applied.{Verdict}
use Rattle.verdict.specs.declared.Effect.TheVariants.{Select, Create, Delete, SetLife, Read, Update}
use Rattle.apdu.specs.Apdu.{wants_template}
use Rattle.fcp.specs.Template.{template_of}
use Rattle.fcp.specs.Writing.{Tellable}

-- the file that SELECT makes current: the EF, where there is one, else the DF
unfoldable pub chosen : ℕ → ℕ → ℕ
chosen d e = cond (eqb e none) d e

-- SELECT tells the template of that file, where P2 asks for it; READ bytes of the pool; nothing else is told
abbrev pub told : List ℕ → List ℕ → List ℕ → Verdict → List ℕ
told img pool c (Err word) = []
told img pool c (Ok (Select d e word)) = cond (wants_template c) (template_of (rec_at img (chosen d e))) []
told img pool c (Ok (Create x)) = []
told img pool c (Ok (Delete s)) = []
told img pool c (Ok (SetLife s life)) = []
told img pool c (Ok (Read at n)) = part pool at n
told img pool c (Ok (Update at)) = []

-- what telling needs: a file that can be told of, bytes that the pool has
abbrev pub CanTell : List ℕ → List ℕ → Verdict → Type 0
CanTell img pool (Err word) = Unit {0}
CanTell img pool (Ok (Select d e word)) = Tellable img (chosen d e)
CanTell img pool (Ok (Create x)) = Unit {0}
CanTell img pool (Ok (Delete s)) = Unit {0}
CanTell img pool (Ok (SetLife s life)) = Unit {0}
CanTell img pool (Ok (Read at n)) = at + n ≤ length pool
CanTell img pool (Ok (Update at)) = Unit {0}
