-- The report (01 "Making and reporting"): answer 0 with four numbers, which are the sums over the records, or
-- answer 1 with zeros.
use Rattle.std.specs.Prelude.{◌≡◌, true, false, cond, List, [], ◌∷◌, ℕ, ◌+◌, Option, Some, None}
use Rattle.laws.specs.Settled.{Settles}
use Rattle.laws.specs.Walks.{sum_below, Counts}
use Rattle.image.specs.Layout.{rec_at, size_of, count_of, current_df_of}
use Rattle.sound.specs.Table.{File, view_at, charge_of}
use Rattle.sound.specs.Sound.{Sound, soundb}
use Rattle.sound.specs.Kinship.{total_for, room_for, children_of, files_beneath, StepsUp}
use Rattle.maker.specs.declared.Figures.{Figures}

-- the current DF's total, its room, its direct children, all files beneath it
unfoldable pub figures_of : List ℕ → Figures
figures_of img = record {
  total = total_for (view_at img) (current_df_of img);
  room = room_for (count_of img) (view_at img) (current_df_of img);
  children = children_of (count_of img) (view_at img) (current_df_of img);
  beneath = files_beneath (count_of img) (view_at img) (current_df_of img);
}

-- .. of a sound image; none of any other
unfoldable pub reported_of : List ℕ → Option Figures
reported_of img = cond (soundb img) (Some (figures_of img)) None

-- 01's number for each answer, and the numbers that go with it
abbrev pub reported_number : Option Figures → ℕ
reported_number (Some f) = 0
reported_number None = 1

abbrev pub numbers_of : Option Figures → List ℕ
numbers_of (Some f) = f.total ∷ f.room ∷ f.children ∷ f.beneath ∷ []
numbers_of None = 0 ∷ 0 ∷ 0 ∷ 0 ∷ []

-- WHAT THE REPORT PROMISES: its answer, which is 01's number, and the four numbers
abbrev pub ReportPromises : List ℕ → Option Figures → Type 0
ReportPromises img r =
    (r ≡ reported_of img)
    × (reported_number r ≡ cond (soundb img) 0 1)
    × (numbers_of r ≡ cond (soundb img) (numbers_of (Some (figures_of img))) (0 ∷ 0 ∷ 0 ∷ 0 ∷ []))

-- that settles it (proofs/Sums, `reported_once`)
abbrev pub ReportedOnce : Type 0
ReportedOnce = (img : List ℕ) → Settles (Option Figures) (ReportPromises img)

-- the numbers of a sound image are the sums and counts over its records: the current DF's total; its room, which with what
-- its direct children cost is the total; its direct children; all files that it stands above
pub record AddsUp (img : List ℕ) (f : Figures) : Type 0 where
  pub total : f.total ≡ size_of (rec_at img (current_df_of img))
  pub room : f.room + sum_below (count_of img) (λ s. charge_of (current_df_of img) s (view_at img s)) ≡ f.total
  pub children : Counts (λ s. File (view_at img) s × ((view_at img s).parent ≡ current_df_of img)) (count_of img) f.children
  pub beneath : Counts (λ s. ((view_at img s).kind ≡ 0 → ⊥) × StepsUp (view_at img) (current_df_of img) s) (count_of img) f.beneath

-- (proofs/Sums, `report_adds_up`)
abbrev pub ReportAddsUp : Type 0
ReportAddsUp = (img : List ℕ) → Sound img → (reported_of img ≡ Some (figures_of img)) × AddsUp img (figures_of img)

-- its answers are 01's numbers: 1 with zeros for an image that isn't sound, else 0 (`report-answers`)
abbrev pub ReportAnswers : Type 0
ReportAnswers = (img : List ℕ) (r : Option Figures) → ReportPromises img r
    → (soundb img ≡ false → (reported_number r ≡ 1) × (numbers_of r ≡ 0 ∷ 0 ∷ 0 ∷ 0 ∷ []))
    × (soundb img ≡ true → (reported_number r ≡ 0) × (r ≡ Some (figures_of img)))
