-- Laws of a text that is fed in parts to a writer.
use Rattle.std.specs.Prelude.{ℕ, ◌≡◌, ◌≤◌, ◌<◌, ◌==◌, Bool, true, false, refl, List, [], ◌∷◌, ◌++◌, length, take, drop, Some, None, IfSome}
use Rattle.std.proofs.Common.{arith, sym, ap, ◌∙◌, length-take, length-drop, append_assoc, append-nil, take_all}
use borrow.Author.Tests.{eqb-true}
use Rattle.std.proofs.lemmas.Bool.{false≢true}
use Rattle.std.specs.declared.option.Option.{Option}
use Rattle.std.specs.Io.KnownBytes.{Appends, Consumes, IsAtEnd}
use Rattle.pieces.specs.declared.Fed.{Fed}
use Rattle.pieces.specs.declared.Finished.{Finished}
use Rattle.pieces.specs.Feeding.{Eats, Ends}
use Rattle.console.specs.CodePassing.{Passes}

-- ---- known bytes

appends-none : (a : Option (List ℕ)) → Appends a a []
appends-none None = tt
appends-none (Some xs) = sym (append-nil xs)

appends-then : (a b c : Option (List ℕ)) (x y : List ℕ) → Appends a b x → Appends b c y → Appends a c (x ++ y)
appends-then None b c x y p q = tt
appends-then (Some xs) None c x y p q = absurd p
appends-then (Some xs) (Some ys) None x y p q = absurd q
appends-then (Some xs) (Some ys) (Some zs) x y p q = q ∙ ap (λ (l : List ℕ). l ++ y) p ∙ append_assoc xs x y

consumes-none : (a : Option (List ℕ)) → Consumes a a []
consumes-none None = tt
consumes-none (Some xs) = refl

consumes-then : (a b c : Option (List ℕ)) (x y : List ℕ) → Consumes a b x → Consumes b c y → Consumes a c (x ++ y)
consumes-then None b c x y p q = tt
consumes-then (Some xs) None c x y p q = absurd p
consumes-then (Some xs) (Some ys) None x y p q = absurd q
consumes-then (Some xs) (Some ys) (Some zs) x y p q = p ∙ ap (λ (l : List ℕ). x ++ l) q ∙ sym (append_assoc x y zs)

-- ---- what is left of a piece

pub some-left : (xs : List ℕ) (b : Bool) → b ≡ (length xs == 0) → b ≡ false → 0 < length xs
some-left [] b e f = absurd (false≢true (sym f ∙ e))
some-left (x ∷ xs) b e f = omega arith

pub none-left : (xs : List ℕ) (b : Bool) → b ≡ (length xs == 0) → b ≡ true → xs ≡ []
none-left [] b e f = refl
none-left (x ∷ xs) b e f = absurd (omega (arith, eqb-true (length (x ∷ xs)) 0 (sym e ∙ f)))

pub less-left : (n k : ℕ) (xs : List ℕ) → 0 < k → 0 < length xs → length (take n (drop k xs)) < length xs
less-left n k xs h l = omega (arith, length-take n (drop k xs), length-drop k xs)

-- ---- a piece

module _ {S : Type 0} (whole : S → List ℕ → List ℕ) (after : S → List ℕ → S) where
  pub passes-none : (s : S) (text : List ℕ) (a : Option (List ℕ)) → Passes whole after s text a s text a
  passes-none s text a = record { shown = []; grows = appends-none a; same = λ later. refl; session = λ later. refl }

  pub passes-fed : {s : S} {text : List ℕ} {a : Option (List ℕ)} {m : S} {rest : List ℕ} {b c : Option (List ℕ)} {out : List ℕ} {r : Fed S} {out' : List ℕ}
      {n : ℕ} → Passes whole after s text a m rest b → Eats whole after m rest out r out' → Appends b c (take r.written out') → length (drop r.taken rest) ≤ n
      → Passes whole after s text a r.session (take n (drop r.taken rest)) c
  passes-fed {s} {text} {a} {m} {rest} {b} {c} {out} {r} {out'} {n} p e g l = rw (take_all n (drop r.taken rest) l) (record {
    shown = p.shown ++ take r.written out';
    grows = appends-then a b c p.shown (take r.written out') p.grows g;
    same = λ later. append_assoc p.shown (take r.written out') (whole r.session (drop r.taken rest ++ later))
        ∙ ap (λ (l : List ℕ). p.shown ++ l) (e.shown later) ∙ p.same later;
    session = λ later. e.session later ∙ p.session later;
  })

  -- all of it
  pub passes-all : {s : S} {text : List ℕ} {a : Option (List ℕ)} {m : S} {rest : List ℕ} {b : Option (List ℕ)} → Passes whole after s text a m rest b → rest ≡ [] → Passes whole after s text a m [] b
  passes-all p e = rw e at p

  -- ---- all pieces: read is what was read of what the reader had left at the start
  pub record Through (s : S) (left₀ left old : Option (List ℕ)) (m : S) (new : Option (List ℕ)) : Type 0 where
    pub read : List ℕ
    pub eaten : Consumes left₀ left read
    pub passes : Passes whole after s read old m [] new

  pub through-none : (s : S) (left old : Option (List ℕ)) → Through s left left old s old
  through-none s left old = record { read = []; eaten = consumes-none left; passes = passes-none s [] old }

  pub through-piece : {s : S} {left₀ left left' old : Option (List ℕ)} {m : S} {new : Option (List ℕ)} {piece : List ℕ} {r : S} {new' : Option (List ℕ)}
      → Through s left₀ left old m new → Consumes left left' piece → Passes whole after m piece new r [] new' → Through s left₀ left' old r new'
  through-piece {s} {left₀} {left} {left'} {old} {m} {new} {piece} {r} {new'} t k p = record {
    read = t.read ++ piece;
    eaten = consumes-then left₀ left left' t.read piece t.eaten k;
    passes = record {
      shown = t.passes.shown ++ p.shown;
      grows = appends-then old new new' t.passes.shown p.shown t.passes.grows p.grows;
      same = λ later. append_assoc t.passes.shown p.shown (whole r later)
          ∙ ap (λ (l : List ℕ). t.passes.shown ++ l) (p.same later)
          ∙ t.passes.same (piece ++ later)
          ∙ ap (whole s) (sym (append_assoc t.read piece later));
      session = λ later. p.session later ∙ t.passes.session (piece ++ later) ∙ ap (after s) (sym (append_assoc t.read piece later));
    };
  }

  -- at the reader's end
  told : (P : List ℕ → Type 0) (left₀ left : Option (List ℕ)) (read : List ℕ) → Consumes left₀ left read → IsAtEnd left → P read → IfSome left₀ P
  told P None left read k z g = tt
  told P (Some xs) None read k z g = absurd k
  told P (Some xs) (Some ys) read k z g =
      let e : xs ≡ read = k ∙ ap (λ (l : List ℕ). read ++ l) z ∙ append-nil read in
      rw e g

  module _ {s : S} {left₀ left old : Option (List ℕ)} (left' : Option (List ℕ)) {m : S} {new : Option (List ℕ)} {out : List ℕ} {r : Finished S} {out' : List ℕ}
      (n : ℕ) (buf : List ℕ) (t : Through s left₀ left old m new) (q : n ≡ 0) (k : Consumes left left' (take n buf)) (z : IsAtEnd left') (room : 128 ≤ length out) (e : Ends whole after m out r out') where
    all-read : Consumes left₀ left' (t.read ++ [])
    all-read = consumes-then left₀ left left' t.read [] t.eaten (rw q at k)

    pub session-end : IfSome left₀ (λ text. r.session ≡ after s text)
    session-end = told (λ text. r.session ≡ after s text) left₀ left' (t.read ++ []) all-read z (e.session room ∙ t.passes.session [])

    pub shown-end : (new' : Option (List ℕ)) → Appends new new' (take r.written out') → IfSome left₀ (λ text. Appends old new' (whole s text))
    shown-end new' g =
        let all : Appends old new' (t.passes.shown ++ take r.written out') = appends-then old new new' t.passes.shown (take r.written out') t.passes.grows g in
        let same : t.passes.shown ++ take r.written out' ≡ whole s (t.read ++ []) = ap (λ (l : List ℕ). t.passes.shown ++ l) (e.shown room) ∙ t.passes.same [] in
        told (λ text. Appends old new' (whole s text)) left₀ left' (t.read ++ []) all-read z (rw same at all)
