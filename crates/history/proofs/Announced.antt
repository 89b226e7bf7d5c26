-- Every verdict is what its command announces: a new file, a deletion, or neither; and a life cycle is changed by no command on a body
-- (`judge-announces`).
use mathlib.Core.Path.{◌≡◌, refl, sym, ap, ◌∙◌}
use mathlib.Core.Bool.{true, false, cond}
use mathlib.Core.List.{List}
use Prim.Native.Nat.{ℕ}
use lib.Dec.{eqb}
use borrow.Author.Tests.{ne_eqb}
use Rattle.std.specs.Prelude.{Some, Ok, Err}
use Rattle.laws.proofs.Says.{and-says}
use Rattle.laws.proofs.Firsts.{first_is}
use Rattle.rules.specs.declared.Sets.{Sets}
use Rattle.rules.specs.Descriptor.{df}
use Rattle.image.specs.Layout.{version_of, count_of, current_df_of}
use Rattle.sound.specs.Table.{view_at}
use Rattle.sound.specs.Kinship.{is_child_named, child_named, free_slot}
use Rattle.sound.proofs.Says.{child-says}
use Rattle.create_data.specs.declared.Data.{Data}
use Rattle.std.specs.Prelude.{Option, Some, None}
use Rattle.create_data.specs.declared.Data.TheVariants.{Df, Ef}
use Rattle.create_data.specs.Data.{data_of}
use Rattle.verdict.specs.declared.State.{State}
use Rattle.verdict.specs.declared.Effect.TheVariants.{Select, Create, Delete, SetLife, Read, Update}
use Rattle.verdict.specs.Applied.{Verdict, sent_data}
use Rattle.judge_target.specs.Steps.{Plan, followed}
use Rattle.judge_target.specs.Target.{slot_in, selected, creating}
use Rattle.judge_create.specs.Creation.{create}
use Rattle.judge_commands.specs.Commands.{selecting, select, delete}
use Rattle.judge_bodies.specs.Bodies.{binary, recordwise}
use Rattle.apdu.specs.Apdu.{instruction, sent_identifier, select_file, create_file, delete_file, is_body, is_binary, is_read}
use Rattle.judge.specs.Shared.{shared_steps}
use Rattle.judge.specs.Judge.{body_plan, life_plan, plan_for, judge_for, judge_of}
use Rattle.card.proofs.Steps.{cond_by, chosen_by, touching_by, judged_by, followed_by, any_word}
use Rattle.card.proofs.Telling.{found_at}
use Rattle.history.specs.Ledger.{makes, deletes, neither}
use Rattle.history.specs.Story.{new_entry, announced}

abbrev pub Announces : List ℕ → List ℕ → Verdict → Type 0
Announces img c (Err w) = Unit {0}
Announces img c (Ok (Select d e w)) = announced (version_of img) c ≡ neither
Announces img c (Ok (Create x)) = announced (version_of img) c ≡ makes x.head.identifier x.head.size (eqb x.head.kind df)
Announces img c (Ok (Delete s)) = announced (version_of img) c ≡ deletes (view_at img s).identifier
Announces img c (Ok (SetLife s life)) = (announced (version_of img) c ≡ neither) × (is_body (instruction c) ≡ false)
Announces img c (Ok (Read at n)) = announced (version_of img) c ≡ neither
Announces img c (Ok (Update at)) = announced (version_of img) c ≡ neither

module _ (img pool c : List ℕ) where
  refused : (w : ℕ) → any_word w ≡ true → Announces img c (Err w)
  refused w k = tt

  -- a plan's verdict does
  Fit : Plan → Type 0
  Fit p = Announces img c (followed p)

  select_announces : (n d x : ℕ) → instruction c ≡ select_file → Announces img c (followed (select img n d x))
  select_announces n d x e =
      followed_by (Announces img c) any_word refused _ refl (λ a. either (slot_in (selected img n d x)) (unfold announced in rw e))
    where
      either : (s : ℕ) → announced (version_of img) c ≡ neither → Announces img c (selecting img d s)
      either s q = unfold selecting in cond_by (Announces img c) (eqb (view_at img s).kind df) _ _ (λ h. q) (λ h. q)

  create_announces : (n d : ℕ) (sets : Sets) → instruction c ≡ create_file → Announces img c (followed (create img pool n d (sent_data c) sets))
  create_announces n d sets e =
      followed_by (Announces img c) any_word refused _ refl (λ a. new (data_of (version_of img) (sent_data c)) (unfold announced in rw e))
    where
      new : (f : Option Data) → announced (version_of img) c ≡ new_entry f → Announces img c (creating img d (slot_in (free_slot n (view_at img))) f)
      new None q = tt
      new (Some (Df x)) q = q
      new (Some (Ef x)) q = q

  delete_announces :
      (n d : ℕ) (sets : Sets) → instruction c ≡ delete_file → Announces img c (followed (delete img pool n d (sent_identifier c) sets))
  unfolding child_named
  delete_announces n d sets e = followed_by (Announces img c) any_word refused _ refl (λ a. found (found_at _ ((and-says _ _).0 a).0))
    where
      sent : announced (version_of img) c ≡ deletes (sent_identifier c)
      sent = unfold announced in rw e

      found : child_named n (view_at img) d (sent_identifier c) ≡ Some (slot_in (child_named n (view_at img) d (sent_identifier c)))
          → announced (version_of img) c ≡ deletes (view_at img (slot_in (child_named n (view_at img) d (sent_identifier c)))).identifier
      found q =
          let f = first_is n (is_child_named (view_at img) d (sent_identifier c)) _ q in
          sent ∙ ap deletes (sym ((child-says (view_at img) d (sent_identifier c) _).0 f.here).1)

  life_announces : (d i : ℕ) (sets : Sets) → announced (version_of img) c ≡ neither → is_body (instruction c) ≡ false
      → Announces img c (followed (life_plan img pool d i sets))
  unfolding life_plan Fit
  life_announces d i sets q b =
      chosen_by Fit i _ _ _ (λ e. followed_by (Announces img c) any_word refused _ refl (λ a. (q, b)))
      (λ z. chosen_by Fit i _ _ _ (λ e. followed_by (Announces img c) any_word refused _ refl (λ a. (q, b)))
      (λ z. chosen_by Fit i _ _ _ (λ e. followed_by (Announces img c) any_word refused _ refl (λ a. (q, b)))
      (λ z. chosen_by Fit i _ _ _ (λ e. followed_by (Announces img c) any_word refused _ refl (λ a. (q, b)))
      (λ z. followed_by (Announces img c) any_word refused _ refl (λ a. (q, b))))))

  body_announces : (sets : Sets) → announced (version_of img) c ≡ neither → Announces img c (followed (body_plan img pool c sets))
  unfolding body_plan binary recordwise Fit
  body_announces sets q =
      cond_by Fit (is_binary (instruction c)) _ _ (λ e. followed_by (Announces img c) any_word refused _ refl (λ a. either _ _ q q))
      (λ e. followed_by (Announces img c) any_word refused _ refl (λ a. either _ _ q q))
    where
      either : (x y : Verdict) → Announces img c x → Announces img c y → Announces img c (cond (is_read (instruction c)) x y)
      either = touching_by (Announces img c) (is_read (instruction c))

  plan_announces : (n d : ℕ) (st : State) → Announces img c (followed (plan_for img pool n d c st))
  unfolding plan_for Fit
  plan_announces n d st =
      chosen_by Fit (instruction c) _ _ _ (λ e. select_announces n d (sent_identifier c) e)
      (λ z. chosen_by Fit (instruction c) _ _ _ (λ e. create_announces n d st.sets e)
      (λ y. chosen_by Fit (instruction c) _ _ _ (λ e. delete_announces n d st.sets e)
      (λ x. let q : announced (version_of img) c ≡ neither =
      unfold announced in rw (ne_eqb (instruction c) create_file y, ne_eqb (instruction c) delete_file x)
      in
      cond_by Fit (is_body (instruction c)) _ _ (λ b. body_announces st.sets q)
      (λ b. life_announces d (instruction c) st.sets q b))))

  pub judge_announces : (st : State) → Announces img c (judge_of img pool c st)
  unfolding judge_of judge_for
  judge_announces st =
      judged_by (Announces img c) any_word refused (shared_steps img c st) _ refl (λ a. plan_announces (count_of img) (current_df_of img) st)
