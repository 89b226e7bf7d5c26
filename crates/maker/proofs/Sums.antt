-- The report's numbers: what a sound image says of its current DF.
use mathlib.Core.Path.{◌≡◌, refl, sym, ◌∙◌}
use mathlib.Core.Bool.{Bool, true, false, not}
use mathlib.Core.List.{List}
use mathlib.Core.Logic.{◌↔◌}
use Prim.Native.Nat.{ℕ, ◌<◌, ◌≤◌}
use native.Mathlib.Omega.{arith}
use lib.ListN.{length}
use borrow.Author.Tests.{not-true, not-false}
use Rattle.std.specs.Prelude.{Some, None}
use Rattle.image.specs.Layout.{Sized, rec_at, size_of, count_of, current_df_of}
use Rattle.laws.proofs.Says.{says}
use Rattle.laws.proofs.Settling.{settled}
use Rattle.laws.proofs.Counting.{counts}
use Rattle.sound.specs.Table.{View, File, view_at, charged}
use Rattle.sound.specs.Sound.{Sound, soundb}
use Rattle.sound.specs.Kinship.{is_child, beneath, total_for, room_for, children_of, files_beneath}
use Rattle.sound.proofs.Says.{sound-says}
use Rattle.sound.proofs.Beneath.{lies_says}
use Rattle.kinship.specs.Climb.{Rooted, Paid}
use Rattle.kinship.proofs.Sound.{sized, rooted, paid}
use Rattle.sound_test.proofs.Passed.{sound_passed}
use Rattle.maker.specs.declared.Figures.{Figures}
use Rattle.maker.specs.Reporting.{figures_of, reported_of, ReportPromises, ReportedOnce, ReportAddsUp, ReportAnswers}

-- the current DF of a sound image, whose slot d was read
module _ (img : List ℕ) (n d : ℕ) (sound : Sound img) (e : n ≡ count_of img) (f : d ≡ current_df_of img) where
  pub df-low : d < n
  df-low = rw (e, f) sound.current.df-low

  pub df-paid : Paid img n d
  df-paid = rw (e, f) (paid img sound (current_df_of img) sound.current.df-low sound.current.df-dir)

  pub rooted_read : Rooted img n
  rooted_read = rw e (rooted img sound)

  pub figures_are : (a b c g : ℕ) → a ≡ size_of (rec_at img d) → b ≡ room_for n (view_at img) d → c ≡ children_of n (view_at img) d
      → g ≡ files_beneath n (view_at img) d
      → (record { total = a; room = b; children = c; beneath = g }) ≡ figures_of img
  unfolding figures_of total_for
  figures_are a b c g p q r s = rw (p, q, r, s, e, f)

module _ (img : List ℕ) (r : Bool) (e : r ≡ soundb img) where
  pub reported_unsound : not r ≡ true → ReportPromises img None
  unfolding reported_of
  reported_unsound t = rw (sym e ∙ not-true r t) (refl, refl, refl)

  module _ (t : not r ≡ false) where
    pub is_sound : Sound img
    is_sound = sound_passed img r e t

    pub long_enough : 16 ≤ length img
    long_enough = omega (arith, is_sound.header.long)

    pub is_sized : (n : ℕ) → n ≡ count_of img → Sized img n
    is_sized n q = rw q (sized img is_sound)

    pub reported_numbers : (x : Figures) → x ≡ figures_of img → ReportPromises img (Some x)
    unfolding reported_of
    reported_numbers x h = rw (sym e ∙ not-false r t, h) (refl, refl, refl)

pub reported_once : ReportedOnce
reported_once img = settled (ReportPromises img) (reported_of img) (λ r k. k.0)

-- a sound image is reported by its figures, which are the sums and counts over its records
child-says : (v : ℕ → View) (d s : ℕ) → (is_child v d s ≡ true) ↔ (File v s × ((v s).parent ≡ d))
unfolding is_child
child-says v d s = simp says ((λ h. h), (λ h. h))

pub report_adds_up : ReportAddsUp
unfolding reported_of figures_of room_for total_for charged children_of files_beneath
report_adds_up img sound =
    let c : charged (count_of img) (view_at img) (current_df_of img) ≤ size_of (rec_at img (current_df_of img)) =
    sound.kin.charges (current_df_of img) sound.current.df-low sound.current.df-dir in (
      rw ((sound-says img).1 sound),
      record {
        total = refl;
        room = omega (arith, c);
        children = counts _ (is_child (view_at img) (current_df_of img)) (count_of img) (λ s l. child-says (view_at img) (current_df_of img) s);
        beneath = counts _ (beneath (view_at img) (current_df_of img)) (count_of img)
            (lies_says (count_of img) (view_at img) sound.kin (current_df_of img));
      },
    )

pub report-answers : ReportAnswers
unfolding reported_of
report-answers img r p = (
  (λ e. (p.1 ∙ rw e, p.2 ∙ rw e)),
  (λ e. (p.1 ∙ rw e, p.0 ∙ rw e)),
)
