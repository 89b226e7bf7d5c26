-- What the book hears of a command, and what the ledger hears of it (`news-heard`).
use mathlib.Core.Path.{◌≡◌, refl, sym, ap, ◌∙◌}
use mathlib.Core.Bool.{Bool, true, false, cond, false≢true}
use mathlib.Core.List.{List, [], ◌∷◌}
use Prim.Native.Nat.{ℕ}
use native.Mathlib.Omega.{arith}
use lib.Dec.{eqb}
use borrow.Author.Tests.{eqb-true, eqb-false, eq-eqb, ne_eqb}
use Rattle.create_data.specs.declared.Data.{Data}
use Rattle.std.specs.Prelude.{Option, Some, None}
use Rattle.create_data.specs.declared.Data.TheVariants.{Df, Ef}
use Rattle.create_data.specs.Data.{data_of}
use Rattle.verdict.specs.Words.{done}
use Rattle.verdict.specs.Applied.{sent_data}
use Rattle.apdu.specs.Apdu.{instruction, sent_identifier, create_file, delete_file}
use Rattle.card.specs.Touching.{place_of}
use Rattle.card.specs.Obeyed.{is_one_of}
use Rattle.history.specs.Ledger.{Announced, makes, deletes, neither}
use Rattle.history.specs.Story.{new_entry, announced}
use Rattle.history.specs.Book.{News, begins, writes, quiet, new_contents, news_of, news_by}

-- UPDATE BINARY or UPDATE RECORD
abbrev pub updates : List ℕ → Bool
updates c = is_one_of (instruction c) (0xD6 ∷ 0xDC ∷ [])

-- a new DF, a new EF, a deletion, or neither, as a number
abbrev pub sort : Announced → ℕ
sort (makes i size is_df) = cond is_df 1 2
sort (deletes i) = 3
sort neither = 4

-- a CREATE of an EF; an UPDATE; any other command, or one that failed
pub record Begins (v word : ℕ) (c : List ℕ) (size : ℕ) : Type 0 where
  pub identifier : ℕ
  pub answered : word ≡ done
  pub create : instruction c ≡ create_file
  pub says : announced v c ≡ makes identifier size false
  pub heard : cond (eqb word done) (announced v c) neither ≡ makes identifier size false

pub record Writes (v word : ℕ) (c : List ℕ) (at : ℕ) (l : List ℕ) : Type 0 where
  pub answered : word ≡ done
  pub update : updates c ≡ true
  pub place : at ≡ place_of c
  pub sent : l ≡ sent_data c
  pub heard : cond (eqb word done) (announced v c) neither ≡ neither

pub record Quiet (v word : ℕ) (c : List ℕ) : Type 0 where
  pub no-ef : sort (cond (eqb word done) (announced v c) neither) ≡ 2 → ⊥
  pub no-update : word ≡ done → updates c ≡ true → ⊥

abbrev pub Hears : ℕ → ℕ → List ℕ → News → Type 0
Hears v word c (begins size) = Begins v word c size
Hears v word c (writes at l) = Writes v word c at l
Hears v word c quiet = Quiet v word c

-- an UPDATE is neither CREATE nor DELETE
pub update_other : (c : List ℕ) (i : ℕ) → is_one_of i (0xD6 ∷ 0xDC ∷ []) ≡ false → updates c ≡ true → instruction c ≡ i → ⊥
update_other c i h u e = false≢true (sym h ∙ sym (ap (λ (j : ℕ). is_one_of j (0xD6 ∷ 0xDC ∷ [])) e) ∙ u)

module _ (v word : ℕ) (c : List ℕ) where
  spoken : word ≡ done → (a : Announced) → announced v c ≡ a → cond (eqb word done) (announced v c) neither ≡ a
  spoken w a q = rw (eq-eqb word done w) q

  -- a CREATE
  created : word ≡ done → instruction c ≡ create_file → (x : Option Data) → announced v c ≡ new_entry x → Hears v word c (new_contents x)
  created w e None q = record {
    no-ef = λ z. omega (arith, z, ap sort (spoken w neither q));
    no-update = λ y u. update_other c create_file refl u e;
  }
  created w e (Some (Df x)) q = record {
    no-ef = λ z. omega (arith, z, ap sort (spoken w (new_entry (Some (Df x))) q));
    no-update = λ y u. update_other c create_file refl u e;
  }
  created w e (Some (Ef x)) q = record { identifier = x.identifier; answered = w; create = e; says = q; heard = spoken w (new_entry (Some (Ef x))) q }

  -- any other
  not-created : word ≡ done → (instruction c ≡ create_file → ⊥) → (u : Bool) → updates c ≡ u
      → Hears v word c (cond u (writes (place_of c) (sent_data c)) quiet)
  unfolding announced
  not-created w z true u = record {
    answered = w;
    update = u;
    place = refl;
    sent = refl;
    heard = rw (
      eq-eqb word done w,
      ne_eqb (instruction c) create_file z,
      ne_eqb (instruction c) delete_file (update_other c delete_file refl u),
    )
        refl;
  }
  not-created w z false u = record {
    no-ef = rw (eq-eqb word done w, ne_eqb (instruction c) create_file z) (go (eqb (instruction c) delete_file));
    no-update = λ y t. false≢true (sym u ∙ t);
  }
    where
      go : (b : Bool) → sort (cond b (deletes (sent_identifier c)) neither) ≡ 2 → ⊥
      go true e = omega arith
      go false e = omega arith

  pub news_heard : Hears v word c (news_by v word c)
  unfolding news_by news_of announced
  news_heard = go (eqb word done) refl
    where
      which : word ≡ done → (b : Bool) → eqb (instruction c) create_file ≡ b
          → Hears v word c (cond b (new_contents (data_of v (sent_data c))) (cond (updates c) (writes (place_of c) (sent_data c)) quiet))
      which w true e =
          let i = eqb-true (instruction c) create_file e in
          created w i (data_of v (sent_data c)) (rw (eq-eqb (instruction c) create_file i) refl)
      which w false e = not-created w (eqb-false (instruction c) create_file e) (updates c) refl

      go : (b : Bool) → eqb word done ≡ b → Hears v word c (cond b
          (cond (eqb (instruction c) create_file) (new_contents (data_of v (sent_data c)))
          (cond (updates c) (writes (place_of c) (sent_data c)) quiet)) quiet)
      go true w = which (eqb-true word done w) (eqb (instruction c) create_file) refl
      go false w = record {
        no-ef = rw w (λ e. omega arith);
        no-update = λ y t. false≢true (sym w ∙ eq-eqb word done y);
      }
