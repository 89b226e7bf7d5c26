-- What is current is a file, and what a fit length says.
use mathlib.Core.Path.{◌≡◌, sym, ◌∙◌}
use mathlib.Core.Bool.{Bool, true, false, cond, false≢true}
use mathlib.Core.List.{List}
use Prim.Native.Nat.{ℕ, ◌+◌, ◌≤◌}
use native.Mathlib.Omega.{arith}
use lib.Dec.{eqb, leb}
use lib.ListN.{length}
use borrow.Author.Tests.{eq-eqb, ne_eqb, eqb-true}
use mathlib.Core.Logic.{⊎_elim}
use Rattle.laws.proofs.Says.{and-says, or-says, same_or}
use Rattle.image.specs.Layout.{current_df_of, current_ef_of, none}
use Rattle.kinship.specs.Climb.{Stands}
use Rattle.judge_target.specs.Judgeable.{Judgeable}
use Rattle.apdu.specs.Apdu.{instruction, lc, asked, is_binary, is_record, is_read, is_update, is_body, wants_template}
use Rattle.apdu.specs.Apdu.{is_seven, is_eight, is_five, has_data, fit_length}
use Rattle.judge_target.specs.Target.{current_file}

-- the current file is one
pub current_stands : (img : List ℕ) (n d t : ℕ) → Judgeable img n d → d ≡ current_df_of img → t ≡ current_file img → Stands img n t
unfolding current_file
current_stands img n d t r e f = ⊎_elim
    (λ q. rw (f ∙ on_none q, ← e) r.df)
    (λ z. rw (f ∙ on_some z) (r.ef z))
    (same_or (current_ef_of img) none)
  where
    on_none : current_ef_of img ≡ none → cond (eqb (current_ef_of img) none) (current_df_of img) (current_ef_of img) ≡ current_df_of img
    on_none q = rw (eq-eqb (current_ef_of img) none q)

    on_some : (current_ef_of img ≡ none → ⊥) → cond (eqb (current_ef_of img) none) (current_df_of img) (current_ef_of img) ≡ current_ef_of img
    on_some z = rw (ne_eqb (current_ef_of img) none z)

-- .. and so is the current EF, where there is one
pub ef_stands : (img : List ℕ) (n d t : ℕ) → Judgeable img n d → t ≡ current_ef_of img → (t ≡ none → ⊥) → Stands img n t
ef_stands img n d t r e z = rw e (r.ef (λ q. z (e ∙ q)))

-- what a fit length says: SELECT and DELETE have seven bytes at least, CREATE has data, a command on a body five bytes at least
seven : (c : List ℕ) → is_seven c ≡ true → 7 ≤ length c
unfolding is_seven
seven c e = omega (arith, eqb-true (length c) 7 ((and-says (eqb (length c) 7) (eqb (lc c) 2)).0 e).0)

eight : (c : List ℕ) → is_eight c ≡ true → 7 ≤ length c
unfolding is_eight
eight c e = omega (arith, eqb-true (length c) 8 ((and-says (eqb (length c) 8) _).0 e).0)

seven_or_eight : (c : List ℕ) (b : Bool) → cond b (is_eight c) (is_seven c) ≡ true → 7 ≤ length c
seven_or_eight c true e = eight c e
seven_or_eight c false e = seven c e

sent : (c : List ℕ) → has_data c ≡ true → length c ≡ 5 + lc c
unfolding has_data
sent c e = eqb-true (length c) (5 + lc c) ((and-says (leb 6 (length c)) (eqb (length c) (5 + lc c))).0 e).1

-- a command on a body is one of four
by_body : {A : Type 0} (i : ℕ) → (i ≡ 0xB0 → A) → (i ≡ 0xD6 → A) → (i ≡ 0xB2 → A) → (i ≡ 0xDC → A) → is_body i ≡ true → A
unfolding is_body is_binary is_record
by_body i rb ub rr ur h =
    ⊎_elim
    (λ k. ⊎_elim (λ f. rb (eqb-true i 0xB0 f)) (λ f. ub (eqb-true i 0xD6 f)) ((or-says _ _).0 k))
    (λ k. ⊎_elim (λ f. rr (eqb-true i 0xB2 f)) (λ f. ur (eqb-true i 0xDC f)) ((or-says _ _).0 k))
    ((or-says _ _).0 h)

module _ (c : List ℕ) (fit : fit_length c ≡ true) {i : ℕ} (e : i ≡ instruction c) where
  pub select-long : i ≡ 0xA4 → 7 ≤ length c
  unfolding fit_length is_update is_read
  select-long f = seven_or_eight c (wants_template c) (rw (sym e ∙ f) at fit)

  pub delete-long : i ≡ 0xE4 → 7 ≤ length c
  unfolding fit_length is_update is_read
  delete-long f = seven c (rw (sym e ∙ f) at fit)

  pub create-long : i ≡ 0xE0 → 5 ≤ length c
  unfolding fit_length
  create-long f = omega (arith, sent c (rw (sym e ∙ f) at fit))

  read-binary : i ≡ 0xB0 → length c ≡ 5
  unfolding fit_length is_update is_read is_five
  read-binary f = eqb-true (length c) 5 (rw (sym e ∙ f) at fit)

  read-record : i ≡ 0xB2 → length c ≡ 5
  unfolding fit_length is_update is_read is_five
  read-record f = eqb-true (length c) 5 (rw (sym e ∙ f) at fit)

  update-binary : i ≡ 0xD6 → length c ≡ 5 + lc c
  unfolding fit_length is_update
  update-binary f = sent c (rw (sym e ∙ f) at fit)

  update-record : i ≡ 0xDC → length c ≡ 5 + lc c
  unfolding fit_length is_update
  update-record f = sent c (rw (sym e ∙ f) at fit)

  pub body-long : {b : Bool} → b ≡ is_body i → b ≡ true → 5 ≤ length c
  body-long h t = by_body i
      (λ f. omega (arith, read-binary f))
      (λ f. omega (arith, update-binary f))
      (λ f. omega (arith, read-record f))
      (λ f. omega (arith, update-record f))
      (sym h ∙ t)

  -- UPDATE is about as many bytes as it sends
  pub update_sends : is_body i ≡ true → is_read i ≡ false → length c ≡ 5 + asked c
  unfolding asked is_read
  update_sends h r = by_body i
      (λ f. absurd (false≢true (sym (rw f at r))))
      (λ f. rw (sym e ∙ f) (update-binary f))
      (λ f. absurd (false≢true (sym (rw f at r))))
      (λ f. rw (sym e ∙ f) (update-record f))
      h
