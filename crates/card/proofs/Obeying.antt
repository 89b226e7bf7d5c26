-- How a command obeys a list of asks: where its steps read as the asks, in their order and with their words, and its effect is the stated
-- one. The steps A to G as they open every list.
use mathlib.Core.Path.{◌≡◌, refl, sym, ap, subst, ◌∙◌}
use mathlib.Core.Bool.{Bool, true, false}
use mathlib.Core.List.{List, [], ◌∷◌, ◌++◌}
use mathlib.Core.Logic.{◌⊎◌, inl, inr}
use Prim.Native.Nat.{ℕ, ◌≤◌}
use native.Mathlib.Omega.{arith}
use lib.Dec.{eqb, leb}
use lib.ListN.{length}
use borrow.Author.Tests.{le-leb}
use Rattle.laws.proofs.Says.{eq-says, le-says}
use Rattle.laws.specs.Lists.{splice}
use Rattle.image.specs.Layout.{version_of, count_of, current_df_of}
use Rattle.sound.specs.Sound.{Sound}
use Rattle.verdict.specs.declared.State.{State}
use Rattle.verdict.specs.Applied.{word_of, applied_of, pooled_of}
use Rattle.judge_target.specs.Steps.{Step, step, all_hold, Plan}
use Rattle.apdu.specs.Apdu.{class_byte, instruction, is_known, wants_alone, is_body}
use Rattle.judge.specs.Shared.{later_steps, shared_steps}
use Rattle.access.specs.declared.Decision.TheVariants.{Granted}
use Rattle.judge.specs.Judge.{plan_for}
use Rattle.effect.specs.Told.{told}
use Rattle.card.specs.Command.{with_word}
use Rattle.card.specs.Command.{PoolFits}
use Rattle.card.specs.Steps.{all_steps, effect_of, first_failing}
use Rattle.card.specs.Conditions.{Ask, Met, Refused, alone, parameters_are, four_bytes, known_asks}
use Rattle.card.specs.Obeyed.{refusal, Obeys}
use Rattle.card.proofs.Matching.{Reads, reads-ask, reads_skip, reads_end}
use Rattle.card.proofs.Asked.{bodiless, channel_says, alive_says}
use Rattle.card.proofs.Asked.{known, calm, alone-says, parameters_say}
use Rattle.card.proofs.Asked.{four-says}
use Rattle.card.proofs.Demands.{replies_in_order}

-- a command with this plan, whose steps read as these asks, and whose effect gives this word and image where all hold
module _ (img pool c : List ℕ) (st : State) (response : List ℕ) (sound : Sound img) (fit : PoolFits img pool) (p : Plan)
    (is : plan_for img pool (count_of img) (current_df_of img) c st ≡ p) where
  -- its last step, by what the effect tells
  unfoldable pub final : Step
  final = step (leb (length (told img pool c p.effect)) (length response)) 0x0000

  pub obeys : (asks : List Ask) (word : ℕ) (left kept answer : List ℕ) → Reads ((shared_steps img c st ++ p.steps) ++ (final ∷ [])) asks
      → (Met asks → (word_of p.effect ≡ word) × (applied_of img c p.effect ≡ left) × (pooled_of img pool c p.effect ≡ kept)
      × (told img pool c p.effect ≡ answer))
      → Obeys img pool c st response asks word left kept answer
  unfolding final
  obeys asks word left kept answer reads gives = record {
    met = λ m.
        let r = (replies_in_order img pool c st response sound fit).0 (reads_them.holds m) in
        let g = gives m in
        let tells = ap (told img pool c) effect ∙ g.3 in (
          r.0 ∙ ap (λ (n : ℕ). with_word n (length (told img pool c (effect_of img pool c st))) Granted) (ap word_of effect ∙ g.0)
              ∙ ap (λ (l : List ℕ). with_word word (length l) Granted) tells,
          r.1 ∙ ap (applied_of img c) effect ∙ g.1,
          r.2 ∙ ap (pooled_of img pool c) effect ∙ g.2,
          r.3 ∙ ap (splice response 0) tells,
        );
    refused = λ w f.
        let q = reads_them.first w f in
        let r = (replies_in_order img pool c st response sound fit).1 q.0 in
        (r.0 ∙ ap (refusal img pool c st.sets) q.1, r.1.image, r.1.bodies, r.1.answered);
    always = either_way (all_hold (all_steps img pool c st (length response))) refl;
  }
    where
      reads_them : Reads (all_steps img pool c st (length response)) asks
      reads_them = subst
          (λ (q : Plan). Reads
          ((shared_steps img c st ++ q.steps) ++ (step (leb (length (told img pool c q.effect)) (length response)) 0x0000 ∷ [])) asks)
          (sym is) reads

      effect : effect_of img pool c st ≡ p.effect
      effect = ap (λ (x : Plan). x.effect) is

      either_way : (b : Bool) → all_hold (all_steps img pool c st (length response)) ≡ b → Met asks ⊎ ((w : ℕ) × Refused asks w)
      either_way true e = inl (reads_them.met e)
      either_way false e = inr (first_failing (all_steps img pool c st (length response)), reads_them.refused e)

  -- an effect that tells nothing
  pub obeys_silent : (asks : List Ask) (word : ℕ) (left kept : List ℕ) → told img pool c p.effect ≡ []
      → Reads (shared_steps img c st ++ p.steps) asks
      → (Met asks → (word_of p.effect ≡ word) × (applied_of img c p.effect ≡ left) × (pooled_of img pool c p.effect ≡ kept))
      → Obeys img pool c st response asks word left kept []
  unfolding final
  obeys_silent asks word left kept silent reads gives =
      let none : length (told img pool c p.effect) ≤ length response = omega (arith, ap length silent) in
      obeys asks word left kept [] (reads_end _ _ _ asks (le-leb _ _ none) reads)
      (λ m. let g = gives m in (g.0, g.1, g.2, silent))

-- the steps A to D of an instruction i that 01 lists
module _ (img c : List ℕ) (st : State) (i : ℕ) (e : instruction c ≡ i) (k : is_known (version_of img) i ≡ true) where
  pub opens : (steps : List Step) (rest : List Ask) → Reads (later_steps c st ++ steps) rest
      → Reads (shared_steps img c st ++ steps) (known_asks img c rest)
  opens steps rest r =
      reads-ask _ _ _ _ _ _ (le-says _ _) refl
      (reads-ask _ _ _ _ _ _ (channel_says (class_byte c)) refl
      (reads-ask _ _ _ _ _ _ (eq-says _ _) refl
      (reads_skip _ _ _ _ (known c st i e (version_of img) k)
      (reads-ask _ _ _ _ _ _ (alive_says img 0) refl r))))

-- the life-cycle commands have no data
module _ (img c : List ℕ) (st : State) (i : ℕ) (e : instruction c ≡ i) (k : is_known (version_of img) i ≡ true)
    (p : eqb i 0xE0 ≡ false) (q : eqb i 0xA4 ≡ false) (r : eqb i 0xE4 ≡ false) (b : is_body i ≡ false) where
  pub opens_anyway : wants_alone i ≡ false → (steps : List Step) (rest : List Ask) → Reads steps rest
      → Reads (shared_steps img c st ++ steps) (known_asks img c (parameters_are c 0x00 0x00 ∷ four_bytes c ∷ rest))
  opens_anyway w steps rest more =
      opens img c st i e k _ _
      (reads_skip _ _ _ _ (calm c st i e w)
      (reads-ask _ _ _ _ _ _ (parameters_say c st i e q (bodiless i b)) refl
      (reads-ask _ _ _ _ _ _ (four-says c i e p q r (bodiless i b)) refl more)))

  pub opens-alone : wants_alone i ≡ true → (steps : List Step) (rest : List Ask) → Reads steps rest
      → Reads (shared_steps img c st ++ steps) (known_asks img c (alone st ∷ parameters_are c 0x00 0x00 ∷ four_bytes c ∷ rest))
  opens-alone w steps rest more =
      opens img c st i e k _ _
      (reads-ask _ _ _ _ _ _ (alone-says c st i e w) refl
      (reads-ask _ _ _ _ _ _ (parameters_say c st i e q (bodiless i b)) refl
      (reads-ask _ _ _ _ _ _ (four-says c i e p q r (bodiless i b)) refl more)))
