-- What a list of steps gives: a refusal by the first that fails, or the effect where all hold.
use mathlib.Core.Path.{◌≡◌, refl, sym, ap, ◌∙◌}
use mathlib.Core.Bool.{Bool, true, false, cond, ◌&&◌, false≢true}
use mathlib.Core.List.{List, [], ◌∷◌, ◌++◌}
use Prim.Native.Nat.{ℕ}
use lib.Dec.{eqb}
use borrow.Author.Tests.{eqb-true, eqb-false}
use Rattle.std.specs.Prelude.{Err}
use Rattle.laws.proofs.Says.{and-says}
use Rattle.verdict.specs.Applied.{Verdict}
use Rattle.judge_target.specs.Steps.{Step, judged, all_hold, Plan, followed}
use Rattle.card.specs.Steps.{first_failing}

-- what holds of both branches holds of the choice
pub cond_by : {A : Type 0} (P : A → Type 0) (b : Bool) (x y : A) → (b ≡ true → P x) → (b ≡ false → P y) → P (cond b x y)
cond_by P true x y f g = f refl
cond_by P false x y f g = g refl

-- .. and of what a number chooses
pub chosen_by : {A : Type 0} (P : A → Type 0) (a b : ℕ) (x y : A) → (a ≡ b → P x) → ((a ≡ b → ⊥) → P y) → P (cond (eqb a b) x y)
chosen_by P a b x y f g = cond_by P (eqb a b) x y (λ e. f (eqb-true a b e)) (λ e. g (eqb-false a b e))

-- .. and of what a command on a body does: it reads, or it updates
pub touching_by : (P : Verdict → Type 0) (reads : Bool) (x y : Verdict) → P x → P y → P (cond reads x y)
touching_by P true x y f g = f
touching_by P false x y f g = g

-- the words of all steps pass a test
abbrev pub all_words : (ℕ → Bool) → List Step → Bool
all_words ok [] = true
all_words ok (s ∷ rest) = ok s.word && all_words ok rest

abbrev pub any_word : ℕ → Bool
any_word w = true

-- what holds of the refusals and of the effect, where all steps hold, holds of the verdict
module _ (P : Verdict → Type 0) (ok : ℕ → Bool) (refused : (w : ℕ) → ok w ≡ true → P (Err w)) where
  pub judged_by : (steps : List Step) (e : Verdict) → all_words ok steps ≡ true → (all_hold steps ≡ true → P e) → P (judged steps e)
  judged_by [] e k h = h refl
  judged_by (s ∷ rest) e k h =
      let w = (and-says (ok s.word) (all_words ok rest)).0 k in
      cond_by P s.holds (judged rest e) (Err s.word)
      (λ q. judged_by rest e w.1 (λ a. h ((and-says s.holds (all_hold rest)).1 (q, a))))
      (λ q. refused s.word w.0)

  pub followed_by : (p : Plan) → all_words ok p.steps ≡ true → (all_hold p.steps ≡ true → P p.effect) → P (followed p)
  unfolding followed
  followed_by p k h = judged_by p.steps p.effect k h

-- two lists, one after the other
pub judged-append : (xs ys : List Step) (e : Verdict) → judged (xs ++ ys) e ≡ judged xs (judged ys e)
judged-append [] ys e = refl
judged-append (s ∷ xs) ys e = ap (λ (v : Verdict). cond s.holds v (Err s.word)) (judged-append xs ys e)

-- all hold: the effect
pub judged-all : (xs : List Step) (e : Verdict) → all_hold xs ≡ true → judged xs e ≡ e
judged-all [] e h = refl
judged-all (s ∷ xs) e h =
    let p = (and-says s.holds (all_hold xs)).0 h in
    ap (λ (b : Bool). cond b (judged xs e) (Err s.word)) p.0 ∙ judged-all xs e p.1

-- one fails: the word of the first
pub judged-first : (xs : List Step) (e : Verdict) → all_hold xs ≡ false → judged xs e ≡ Err (first_failing xs)
judged-first [] e h = absurd (false≢true (sym h))
judged-first (s ∷ xs) e h = go s.holds h (λ q. judged-first xs e q)
  where
    go : (b : Bool) → (b && all_hold xs) ≡ false → (all_hold xs ≡ false → judged xs e ≡ Err (first_failing xs))
        → cond b (judged xs e) (Err s.word) ≡ Err (cond b (first_failing xs) s.word)
    go true q rec = rec q
    go false q rec = refl
