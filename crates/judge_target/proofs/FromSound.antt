-- What judging needs, from soundness; and that what a search finds is a file.
use mathlib.Core.Path.{◌≡◌, refl, sym, subst, ◌∙◌}
use mathlib.Core.Bool.{Bool, true, false, cond}
use mathlib.Core.List.{List}
use mathlib.Core.Logic.{⊎_elim}
use Prim.Native.Nat.{ℕ, ◌<◌, ◌≤◌}
use native.Mathlib.Omega.{arith}
use lib.Dec.{eqb}
use lib.ListN.{get_or}
use Rattle.std.specs.Prelude.{Option, Some, None}
use Rattle.std.specs.Option.{option_or}
use Rattle.laws.proofs.Says.{and-says, same_or}
use Rattle.laws.proofs.Firsts.{first_is}
use Rattle.rules.specs.Descriptor.{df, ef}
use Rattle.image.specs.Layout.{version_of, rec_at, kind_of, count_of, current_df_of, current_ef_of}
use Rattle.image.proofs.Versions.{longest_within}
use Rattle.sound.specs.Table.{View, view_at}
use Rattle.sound.specs.Own.{Own}
use Rattle.sound.specs.Sound.{Sound}
use Rattle.sound.specs.Kinship.{is_child_named, child_named}
use Rattle.sound.proofs.FullTable.{level-low}
use Rattle.sound.proofs.Says.{child-says}
use Rattle.kinship.specs.Climb.{Stands}
use Rattle.kinship.specs.Search.{is_df_named, df_named}
use Rattle.kinship.proofs.Sound.{sized, rooted, paid}
use Rattle.judge_target.specs.Judgeable.{Judgeable}
use Rattle.judge_target.specs.Target.{itself, selected}

module _ (img : List ℕ) (sound : Sound img) where
  stands : (s : ℕ) (k : ℕ) → s < count_of img → (view_at img s).kind ≡ k → (k ≡ 0 → ⊥) → Stands img (count_of img) s
  stands s k l e z = record { low = l; used = λ q. z (sym e ∙ q) }

  pub judgeable : Judgeable img (count_of img) (current_df_of img)
  judgeable =
      let n : ℕ = count_of img in
      let d = sound.current in
      let root = rooted img sound in
      record {
        count = refl;
        rooted = root;
        names = record { sized = sized img sound; short = λ s l. name-short (version_of img) (rec_at img s) (sound.records s l) };
        ruled = λ s l. rule-short (version_of img) (rec_at img s) (sound.records s l);
        root = stands 0 df (omega (arith, sound.header.least)) sound.kin.root-kind (λ e. omega arith);
        df = stands (current_df_of img) df d.df-low d.df-dir (λ e. omega arith);
        paid = paid img sound (current_df_of img) d.df-low d.df-dir;
        deep = level-low n (view_at img) sound.kin (omega (arith, sound.header.least)) (current_df_of img) d.df-low
            (λ e. omega (arith, d.df-dir));
        ef = λ z. stands (current_ef_of img) ef (d.ef-low z) (d.ef-file z) (λ e. omega arith);
      }
    where
      name-short : (v : ℕ) (r : List ℕ) → Own v r → get_or r 16 0 ≤ 16
      name-short v r o = ⊎_elim (λ e. omega (arith, o.free e 16 (omega arith))) (λ z. (o.used z).name.short) (same_or (kind_of r) 0)

      rule-short : (v : ℕ) (r : List ℕ) → Own v r → get_or r 33 0 ≤ 30
      rule-short v r o = ⊎_elim (λ e. omega (arith, o.free e 33 (omega arith)))
          (λ z. omega (arith, (o.used z).rule.short, longest_within v)) (same_or (kind_of r) 0)

-- a child that a search finds is a file
pub child_stands : (img : List ℕ) (n d x s : ℕ) → child_named n (view_at img) d x ≡ Some s → Stands img n s
unfolding child_named
child_stands img n d x s e =
    let f = first_is n (is_child_named (view_at img) d x) s e in
    record { low = f.low; used = ((child-says (view_at img) d x s).0 f.here).0.0.0 }

df_stands : (img : List ℕ) (n d x s : ℕ) → df_named n (view_at img) d x ≡ Some s → Stands img n s
unfolding df_named is_df_named
df_stands img n d x s e =
    let f = first_is n (is_df_named (view_at img) d x) s e in
    let h = (and-says (eqb (view_at img s).kind df) (is_child_named (view_at img) d x s)).0 f.here in
    record { low = f.low; used = ((child-says (view_at img) d x s).0 h.1).0.0.0 }

-- what holds of the slot that either of two tries finds
either-found : (Q : ℕ → Type 0) (s : ℕ) (f g : Option ℕ) → ((t : ℕ) → f ≡ Some t → Q t) → ((t : ℕ) → g ≡ Some t → Q t) → option_or f g ≡ Some s → Q s
either-found Q s (Some t) g p q e = p s e
either-found Q s None g p q e = q s e

itself-found : (Q : ℕ → Type 0) (v : ℕ → View) (x t : ℕ) → Q t → (s : ℕ) → itself v x t ≡ Some s → Q s
unfolding itself
itself-found Q v x t h s e = go (eqb (v t).identifier x) e
  where
    go : (b : Bool) → cond b (Some t) None ≡ Some s → Q s
    go true q = let i : t ≡ s = cc in subst Q i h
    go false q = let z : ◌≡◌ {A = ℕ} 0 1 = cc in absurd (omega arith)

-- what holds of the root, of the current DF d and its parent, of d's children and of the DFs beside d holds of the
-- file that SELECT finds
pub selected_by : (Q : ℕ → Type 0) (img : List ℕ) (n d x s : ℕ) → Q 0 → Q d → Q (view_at img d).parent
    → ((t : ℕ) → child_named n (view_at img) d x ≡ Some t → Q t) → ((t : ℕ) → df_named n (view_at img) (view_at img d).parent x ≡ Some t → Q t)
    → selected img n d x ≡ Some s → Q s
unfolding selected
selected_by Q img n d x s root here above child beside e =
    let v : ℕ → View = view_at img in
    either-found Q s (itself v x 0) _ (itself-found Q v x 0 root)
    (λ t. either-found Q t (itself v x d) _ (itself-found Q v x d here)
    (λ u. either-found Q u (itself v x (v d).parent) _ (itself-found Q v x (v d).parent above)
    (λ w. either-found Q w (child_named n v d x) _ child beside))) e

-- it is a file
pub selected_stands : (img : List ℕ) (n d x s : ℕ) → Judgeable img n d → selected img n d x ≡ Some s → Stands img n s
selected_stands img n d x s r e =
    selected_by (Stands img n) img n d x s r.root r.df (r.rooted.parent d r.df) (child_stands img n d x)
    (df_stands img n (view_at img d).parent x) e
