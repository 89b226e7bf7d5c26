-- Any two results that a C function's promise allows are equal: each names one result; and the numbers that C sees.
use mathlib.Core.Path.{◌≡◌, sym, ap, ◌∙◌}
use mathlib.Core.List.{List}
use mathlib.Core.Logic.{◌⊎◌, ◌↔◌, inl, inr, ⊎_elim}
use Prim.Native.Nat.{ℕ}
use native.Mathlib.Omega.{arith}
use lib.ListN.{length, get_or}
use Rattle.std.specs.Prelude.{Ok, Err}
use Rattle.verdict.specs.declared.State.{State}
use Rattle.card.specs.declared.CardError.TheVariants.{Damaged, WrongPool}
use Rattle.card.specs.declared.CommandError.TheVariants.{Card, Short}
use Rattle.card.specs.Command.{Reply}
use Rattle.card.specs.Command.{answer_number, answer_word, answer_security, reply_of}
use Rattle.card.specs.Ruling.{ruling_of}
use Rattle.card.proofs.Security.{word-answers, number_exactly}
use Rattle.laws.proofs.Settling.{settled, both_are, pair_settled}
use Rattle.abi.specs.Promises.{HullCommand, HullSound, EachSettles, HullNumbers}
use Rattle.abi.specs.Numbers.{packed, told_numbers}

pub each_settles : EachSettles
each_settles = record {
  make = λ img e total form rule. pair_settled _ _;
  command = λ img pool c st o.
      settled (λ p. HullCommand img pool c st o p.0 p.1.0 p.1.1.0 p.1.1.1.0 p.1.1.1.1) (_, (_, (_, (_, _))))
      (λ p k. both_are _ _ p k.result (both_are _ _ p.1 k.image (both_are _ _ p.1.1 k.pool_is
      (both_are _ _ p.1.1.1 k.response_is k.numbers_are))));
  report = λ img. pair_settled _ _;
  sound = λ img. settled (HullSound img) _ (λ x e. e);
  rule = λ img pool slot. pair_settled _ _;
}

-- a reply's number, where its answer is 0
word-only : (r : Reply) → answer_number r ≡ 0 → packed r ≡ answer_word r
word-only (Ok a) e = omega arith
word-only (Err (Card Damaged)) e = absurd (omega arith)
word-only (Err Short) e = absurd (omega arith)
word-only (Err (Card WrongPool)) e = absurd (omega arith)

-- a reply's number is 6982 where its answer is 0 and its word is that, and nowhere else
six_says : (r : Reply) → (packed r ≡ 0x6982) ↔ ((answer_number r ≡ 0) × (answer_word r ≡ 0x6982))
six_says (Ok a) = (λ e. (omega arith, omega (arith, e)), λ p. omega (arith, p.1))
six_says (Err (Card Damaged)) = (λ e. absurd (omega (arith, e)), λ p. absurd (omega (arith, p.0)))
six_says (Err Short) = (λ e. absurd (omega (arith, e)), λ p. absurd (omega (arith, p.0)))
six_says (Err (Card WrongPool)) = (λ e. absurd (omega (arith, e)), λ p. absurd (omega (arith, p.0)))

security-told : (img pool c : List ℕ) (st : State) (o : List ℕ) (r : ℕ) (left kept y numbers : List ℕ)
    → HullCommand img pool c st o r left kept y numbers
    → (((get_or numbers 1 0 ≡ 1) ⊎ (get_or numbers 1 0 ≡ 2)) ↔ (r ≡ 0x6982)) × ((r ≡ 0x6982 → ⊥) → get_or numbers 1 0 ≡ 0)
security-told img pool c st o r left kept y numbers p = (
  (
    (λ q. p.result ∙ (six_says reply).1 ((number_exactly img pool c st (length o)).0.0 (⊎_elim (λ e. inl (sym second ∙ e)) (λ e. inr (sym second ∙ e)) q))),
    (λ e. ⊎_elim (λ q. inl (second ∙ q)) (λ q. inr (second ∙ q)) ((number_exactly img pool c st (length o)).0.1 ((six_says reply).0 (sym p.result ∙ e)))),
  ),
  (λ z. second ∙ (number_exactly img pool c st (length o)).1 (λ w. z (p.result ∙ (six_says reply).1 (word-answers reply w, w)))),
)
  where
    reply : Reply
    reply = reply_of img pool c st (length o)

    second : get_or numbers 1 0 ≡ answer_security reply
    second = ap (λ (l : List ℕ). get_or l 1 0) p.numbers_are

pub hull_numbers : HullNumbers
unfolding reply_of ruling_of
hull_numbers = record {
  damaged = λ img pool c st o r left kept y numbers p e. (p.result ∙ rw e, p.numbers_are ∙ rw e);
  short = λ img pool c st o r left kept y numbers p e. (p.result ∙ ap packed e, p.numbers_are ∙ ap told_numbers e);
  wrong = λ img pool c st o r left kept y numbers p e. (p.result ∙ ap packed e, p.numbers_are ∙ ap told_numbers e);
  word = λ img pool c st o r left kept y numbers p e. (p.result ∙ word-only (reply_of img pool c st (length o)) e, p.numbers_are);
  security = security-told;
  sound = λ img r p e. p ∙ rw e;
  unsound = λ img r p e. p ∙ rw e;
  unruled = λ img pool slot r numbers p e. (p.0 ∙ rw e, p.1 ∙ rw e);
  misruled = λ img pool slot r numbers p e f. (p.0 ∙ rw (e, f), p.1 ∙ rw (e, f));
}
