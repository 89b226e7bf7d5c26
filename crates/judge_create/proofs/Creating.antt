-- CREATE by what its data are: a DF, an EF, or bad.
use mathlib.Core.Path.{◌≡◌, sym, ◌∙◌, subst, ap}
use mathlib.Core.List.{List}
use Prim.Native.Nat.{ℕ, ◌≤◌}
use lib.ListN.{length}
use Rattle.std.specs.Prelude.{Ok, Err}
use Rattle.rules.specs.declared.Sets.{Sets}
use Rattle.rules.specs.declared.Right.TheVariants.{CreateDf, CreateEf}
use Rattle.rules.specs.Descriptor.{df, ef}
use Rattle.image.specs.Layout.{version_of}
use Rattle.sound.specs.Table.{view_at}
use Rattle.sound.specs.Kinship.{free_slot}
use Rattle.template.specs.Objects.{bytes_at}
use Rattle.create_data.specs.declared.NewFile.{NewFile}
use Rattle.create_data.specs.declared.Data.{Data}
use Rattle.std.specs.Prelude.{Option, Some, None}
use Rattle.create_data.specs.declared.Data.TheVariants.{Df, Ef}
use Rattle.create_data.specs.Data.{data_of}
use Rattle.create_data.specs.Good.{GoodDf, GoodEf, Good}
use Rattle.verdict.specs.Applied.{Verdict}
use Rattle.verdict.specs.declared.Effect.TheVariants.{Create}
use Rattle.verdict.specs.Words.{wrong_data}
use Rattle.judge_target.specs.Steps.{judged, followed}
use Rattle.judge_target.specs.Target.{slot_in, new_record}
use Rattle.judge_create.specs.Creation.{admission, create}

-- r is what the reader gave, q the slot that the search gave
module _ (img pool : List ℕ) (n d : ℕ) (s : List ℕ) (x : Sets) {w : ℕ} (known : w ≡ version_of img) {r : Option Data} (e : r ≡ data_of w s) where
  pub create-bad : r ≡ None → Err wrong_data ≡ followed (create img pool n d s x)
  unfolding followed
  create-bad f = rw (← known, sym e ∙ f)

  module _ {q : ℕ} (p : q ≡ slot_in (free_slot n (view_at img))) {v : Verdict} {g : Data} {f : NewFile} where
    pub create-df : r ≡ Some g → g ≡ Df f
        → v ≡ judged (admission img pool n d CreateDf f.identifier (bytes_at s f.name) f.size x) (Ok (Create (new_record img d q df f)))
        → v ≡ followed (create img pool n d s x)
    unfolding followed
    create-df k l h = rw (← known, sym e ∙ k ∙ ap Some l, ← p) h

    pub create-ef : r ≡ Some g → g ≡ Ef f
        → v ≡ judged (admission img pool n d CreateEf f.identifier (bytes_at s f.name) f.size x) (Ok (Create (new_record img d q ef f)))
        → v ≡ followed (create img pool n d s x)
    unfolding followed
    create-ef k l h = rw (← known, sym e ∙ k ∙ ap Some l, ← p) h

-- the stretch of a new file's name, in good data
pub df-name : (v : ℕ) (s : List ℕ) {r : Option Data} {g : Data} {f : NewFile} → Good v s r → r ≡ Some g → g ≡ Df f
    → (f.name.start ≤ f.name.end)
    × (f.name.end ≤ length s)
df-name v s {f = f} h e i = let k : GoodDf v s f = subst (Good v s) (e ∙ ap Some i) h in (k.file.name-low, k.file.name-high)

pub ef-name : (v : ℕ) (s : List ℕ) {r : Option Data} {g : Data} {f : NewFile} → Good v s r → r ≡ Some g → g ≡ Ef f
    → (f.name.start ≤ f.name.end)
    × (f.name.end ≤ length s)
ef-name v s {f = f} h e i = let k : GoodEf v s f = subst (Good v s) (e ∙ ap Some i) h in (k.file.name-low, k.file.name-high)
