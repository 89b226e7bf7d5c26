-- Bytes that are the same, and names and identifiers that are free: each way out of the functions that ask,
-- over plain lists.
use mathlib.Core.Path.{◌≡◌, refl, sym, ◌∙◌, ap}
use mathlib.Core.Bool.{Bool, true, false, not, false≢true}
use mathlib.Core.List.{List, [], ◌∷◌}
use Prim.Native.Nat.{ℕ, ◌+◌, ◌<◌, ◌≤◌, ◌-◌}
use native.Mathlib.Omega.{arith}
use denote.Ref.{Bor}
use lib.Dec.{eqb}
use lib.ListN.{length}
use borrow.Author.Tests.{eq-eqb, eqb-true, eqb-false}
use Rattle.std.specs.Prelude.{Option, Some, None, is_some, slice_get}
use Rattle.std.specs.Bool.{Decides}
use Rattle.std.specs.Option.{option_copied, option_eq}
use Rattle.std.specs.Cmp.Lexicographic.{pointwise}
use Rattle.std.proofs.lemmas.Bool.Decides.{Decides-eqb}
use Rattle.std.proofs.lemmas.Option.{none-some, same_Some}
use Rattle.std.proofs.lemmas.Slice.Eq.{slice_eq-Decides}
use Rattle.laws.specs.Walks.{all_below}
use Rattle.laws.specs.Lists.{same_list}
use Rattle.laws.proofs.Walks.{all-zero, all_more, all_fails, all_end}
use Rattle.laws.proofs.Chains.{and-on, and_off, implies-no, implies-yes}
use Rattle.laws.proofs.Says.{same-says, not-says, same_test, untrue}
use Rattle.sound.specs.Table.{View}
use Rattle.laws.proofs.Firsts.{first_is, no-first}
use Rattle.laws.proofs.Walks.{each_all}
use Rattle.sound.specs.Kinship.{is_child_named, child_named, named_up, identifier_free, name_free}

-- two references to one number, or none twice
same-copies : (p q : Option (Bor ℕ)) → option_copied p ≡ option_copied q → option_eq (λ x y. eqb x.now y.now) p q ≡ true
same-copies None None e = refl
same-copies None (Some y) e = absurd (none-some y.now e)
same-copies (Some x) None e = absurd (none-some x.now (sym e))
same-copies (Some x) (Some y) e = eq-eqb x.now y.now (same_Some x.now y.now e)

module _ (a b : List ℕ) {r : Bool} where
  -- r is what `==` answered
  pub same-eq : r ≡ pointwise eqb a b → r ≡ same_list a b
  same-eq e =
      let d : Decides r (a ≡ b) = slice_eq-Decides Decides-eqb a b r e in
      same_test r (same_list a b) (λ s. d.1 ((same-says a b).0 s)) (λ s. untrue r (λ t. false≢true (sym s ∙ (same-says a b).1 (d.0 t))))

  -- p and q are their last bytes, and r is that these differ
  pub same-last : (p q : Option (Bor ℕ)) → option_copied p ≡ slice_get a (length a - 1) → option_copied q ≡ slice_get b (length b - 1)
      → r ≡ option_eq (λ x y. eqb x.now y.now) p q → r ≡ false → r ≡ same_list a b
  same-last p q e f g h = h ∙ sym (untrue (same_list a b) (λ s. false≢true (sym h ∙ g ∙ same-copies p q (copies s))))
    where
      copies : same_list a b ≡ true → option_copied p ≡ option_copied q
      copies s = e ∙ ap (λ (l : List ℕ). slice_get l (length l - 1)) ((same-says a b).0 s) ∙ sym f

-- a name of no bytes is none; any other is one
pub no_name : (name : List ℕ) → length name ≡ 0 → same_list name [] ≡ true
no_name [] e = (same-says [] []).1 refl
no_name (x ∷ rest) e = absurd (omega arith)

pub some-name : (name : List ℕ) → (length name ≡ 0 → ⊥) → not (same_list name []) ≡ true
some-name name some = (not-says (same_list name [])).1 (λ e. some (ap length ((same-says name []).0 e)))

module _ (v : ℕ → View) (name : List ℕ) where
  unfoldable pub free_up_to : ℕ → Bool
  free_up_to s = all_below s (λ t. not (same_list (v t).name name))

  pub free-start : free_up_to 0 ≡ true
  unfolding free_up_to
  free-start = all-zero _

  -- r is what the comparison with l, the name of record s, answered
  pub free_turn : (s : ℕ) (l : List ℕ) (r : Bool) → free_up_to s ≡ true → l ≡ (v s).name → r ≡ same_list l name → r ≡ false
      → free_up_to (s + 1) ≡ true
  unfolding free_up_to
  free_turn s l r h f e t = all_more _ s h (rw (← f, ← e) (ap not t))

  -- q is whether it has no bytes
  pub free-empty : (n : ℕ) (q : Bool) → q ≡ eqb (length name) 0 → q ≡ true → true ≡ name_free n v name
  unfolding name_free
  free-empty n q e t = implies-no _ _ (ap not (no_name name (eqb-true (length name) 0 (sym e ∙ t))))

  module _ (n : ℕ) (q : Bool) (bytes : q ≡ eqb (length name) 0) (t : q ≡ false) where
    some : length name ≡ 0 → ⊥
    some = eqb-false (length name) 0 (sym bytes ∙ t)

    pub free_stop : (s : ℕ) (l : List ℕ) (r : Bool) → s < n → l ≡ (v s).name → r ≡ same_list l name → r ≡ true → false ≡ name_free n v name
    unfolding name_free
    free_stop s l r h f e u = implies-yes _ _ _ (some-name name some) (sym (all_fails _ n s h (rw (← f, ← e) (ap not u))))

    pub free-end : (s : ℕ) → s ≤ n → n ≤ s → free_up_to s ≡ true → true ≡ name_free n v name
    unfolding name_free free_up_to
    free-end s l m h = implies-yes _ _ _ (some-name name some) (all_end _ n s l m h)

-- f is the child with the identifier, r whether there is none; then b is whether a directory above has it
module _ (n : ℕ) (v : ℕ → View) (d x : ℕ) where
  pub identifier_taken : (f : Option ℕ) {r : Bool} → f ≡ child_named n v d x → is_some f ≡ not r → r ≡ false → r ≡ identifier_free n v d x
  unfolding identifier_free child_named
  identifier_taken None e o q = absurd (false≢true (o ∙ ap not q))
  identifier_taken (Some s) e o q =
      let f = first_is n (is_child_named v d x) s (sym e) in
      q ∙ and_off _ _ (all_fails (λ t. not (is_child_named v d x t)) n s f.low (ap not f.here)) refl

  pub identifier-above : (f : Option ℕ) {r b : Bool} → f ≡ child_named n v d x → is_some f ≡ not r → r ≡ true → b ≡ named_up v x d
      → not b ≡ identifier_free n v d x
  unfolding identifier_free child_named
  identifier-above None e o q h =
      and-on _ _ (each_all (λ t. not (is_child_named v d x t)) n (λ t l. ap not ((no-first n (is_child_named v d x) (sym e)).none t l))) (ap not h)
  identifier-above (Some s) e o q h = absurd (false≢true (sym (o ∙ ap not q)))
