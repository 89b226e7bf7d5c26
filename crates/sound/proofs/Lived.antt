-- A change of a life-cycle byte keeps an image sound: `sound-lived`.
use mathlib.Core.Path.{_≡_, refl, sym, ap, _∙_}
use mathlib.Core.List.{List}
use mathlib.Core.Bool.{true}
use mathlib.Core.Logic.{_⊎_, inl, inr}
use Prim.Native.Nat.{ℕ, _+_, _-_, _<_, _≤_}
use native.Mathlib.Omega.{arith}
use lib.ListN.{length, getD}
use Rattle·laws.proofs.Says.{same-or}
use Rattle·rules.specs.Life.{knownLife}
use Rattle·image.specs.Layout.{longestRule, versionOf, withLife, Within, recAt, kindOf, countOf, setLife}
use Rattle·image.proofs.Versions.{longest-within}
use Rattle·image.proofs.Places.{length-record}
use Rattle·image.proofs.Headers.{SameHeader, header-life, same-front, same-version, same-count, same-df, same-ef}
use Rattle·pool.specs.Bodies.{bodyOf, startAt, bodyAt}
use Rattle·image.proofs.Lives.{byte-kept, life-set, kind-kept, descriptor-kept, form-kept, identifier-kept, parent-kept, level-kept}
use Rattle·image.proofs.Lives.{record-length-kept, size-kept, start-kept, name-kept, rule-kept, life-same, life-other}
use Rattle·sound·specs.specs.Table.{View, viewAt, viewOf}
use Rattle·sound·specs.specs.Own.{Padded, hasStart, Used, Own}
use Rattle·sound·specs.specs.Sound.{Sound}
use Rattle·sound·proofs.proofs.Kept.{kin-same}
use Rattle·sound·proofs.proofs.Front.{files-front, files-sound, bodies-kept, body-same, sound-within, current-same}

module _ (r : List ℕ) (x : ℕ) (whole : length r ≡ 64) where
  padded-kept : (most n : ℕ) → 3 ≤ n → Padded most r n → Padded most (withLife r x) n
  padded-kept most n a p = record {
    short = rw (byte-kept r x whole n (inr a)) (p .short);
    zeros = rw (byte-kept r x whole n (inr a)) (λ k l. byte-kept r x whole (n + 1 + getD r n 0 + k) (inr (omega arith)) ∙ p .zeros k l);
  }

  start-stays : (v : ℕ) → hasStart v (withLife r x) ≡ hasStart v r
  unfolding hasStart
  start-stays v = rw (kind-kept r x whole)

  used-kept : (v : ℕ) → Used v r → knownLife x ≡ true → Used v (withLife r x)
  used-kept v u g = record {
    class = rw (descriptor-kept r x whole, kind-kept r x whole) (u .class);
    life = rw (life-set r x whole) g;
    identifier = rw (identifier-kept r x whole) (u .identifier);
    size = rw (size-kept r x whole) (u .size);
    length = rw (descriptor-kept r x whole, record-length-kept r x whole, size-kept r x whole) (u .length);
    name = padded-kept 16 16 (omega arith) (u .name);
    nameless = λ e. byte-kept r x whole 16 (inr (omega arith)) ∙ u .nameless (sym (kind-kept r x whole) ∙ e);
    rule = padded-kept (longestRule v) 33 (omega arith) (u .rule);
    formed = rw (form-kept r x whole, rule-kept r x whole (omega (arith, u .rule .short, longest-within v))) (u .formed);
    spare = λ n k l. byte-kept r x whole (34 + longestRule v + k) (inr (omega arith)) ∙ u .spare (λ e. n (start-stays v ∙ e)) k l;
  }

  view-kept : Padded 16 r 16 → viewOf (withLife r x) ≡ viewOf r
  view-kept p =
      rw (
        kind-kept r x whole,
        identifier-kept r x whole,
        parent-kept r x whole,
        level-kept r x whole,
        size-kept r x whole,
        name-kept r x
            whole (p .short),
      )

module _ (img : List ℕ) (s x : ℕ) (sound : Sound img) (low : s < countOf img) (used : kindOf (recAt img s) ≡ 0 → ⊥)
    (good : knownLife x ≡ true) where
  within : (t : ℕ) → t < countOf img → Within img t
  within = sound-within img sound

  whole : length (recAt img s) ≡ 64
  whole = length-record img s (within s low .0)

  here : recAt (setLife img s x) s ≡ withLife (recAt img s) x
  here = life-same img s x (within s low)

  own : (t : ℕ) → t < countOf img → (t ≡ s) ⊎ (t ≡ s → ⊥) → Own (versionOf img) (recAt (setLife img s x) t)
  own t l (inl e) = rw (e, here) (record {
    free = λ z. absurd (used (sym (kind-kept (recAt img s) x whole) ∙ z));
    used = λ z. used-kept (recAt img s) x whole (versionOf img) (sound .records s low .used used) good;
  })
  own t l (inr z) = rw (life-other img s x (within s low) t (within t l) z) (sound .records t l)

  view : (t : ℕ) → t < countOf img → (t ≡ s) ⊎ (t ≡ s → ⊥) → viewAt (setLife img s x) t ≡ viewAt img t
  view t l (inl e) = rw e (ap viewOf here ∙ view-kept (recAt img s) x whole (sound .records s low .used used .name))
  view t l (inr z) = ap viewOf (life-other img s x (within s low) t (within t l) z)

  -- its body lies where it did
  body : (t : ℕ) → t < countOf img → (t ≡ s) ⊎ (t ≡ s → ⊥)
      → (startAt img t ≡ startAt (setLife img s x) t) × (bodyAt img t ≡ bodyAt (setLife img s x) t)
  unfolding startAt bodyAt bodyOf
  body t l (inl e) = rw (
    e,
    here,
    same-version img (setLife img s x) (same-front img (setLife img s x) (header-life img s x (within s low))),
    kind-kept (recAt img s) x whole,
    size-kept (recAt img s) x whole,
    start-kept (recAt img s) x whole,
  ) (refl, refl)
  body t l (inr z) =
      body-same img (setLife img s x) t (same-version img (setLife img s x) (same-front img (setLife img s x) (header-life img s x (within s low))))
      (life-other img s x (within s low) t (within t l) z)

  -- other records see nothing of it
  pub view-lived : (t : ℕ) → t < countOf img → viewAt (setLife img s x) t ≡ viewAt img t
  view-lived t l = view t l (same-or t s)

  pub sound-lived : Sound (setLife img s x)
  sound-lived =
      let same = header-life img s x (within s low) in
      files-sound (setLife img s x) (files-front img (setLife img s x) (sound .header) (same-front img (setLife img s x) same) (λ t l. own t l (same-or t s))
      (kin-same (countOf img) (viewAt img) (viewAt (setLife img s x)) (omega (arith, sound .header .least)) (sound .kin) view-lived)
      (rw (same-df img (setLife img s x) same, same-ef img (setLife img s x) same)
      (current-same (countOf img) (viewAt img) (viewAt (setLife img s x)) _ _ (sound .current) view-lived)))
      (bodies-kept img (setLife img s x) sound (same-count img (setLife img s x) (same-front img (setLife img s x) same))
      (ap (λ (v : View). v .size) (view-lived 0 (omega (arith, sound .header .least)))) (λ t l y. body t l (same-or t s)))
