-- A text that is fed in parts, and what a writer holds of what that gives, where its bytes are known.
use Rattle.std.specs.Prelude.{ℕ, ◌≡◌, List, ◌++◌}
use Rattle.std.specs.declared.option.Option.{Option}
use Rattle.std.specs.Io.KnownBytes.{Appends}

-- Of a text that was to be fed to s, rest is still to be fed to m: the bytes that the writer got are what is missing there of what is written for
-- the text fed whole, whatever comes behind it, and m is on the way to the same session.
pub record Passes {S : Type 0} (whole : S → List ℕ → List ℕ) (after : S → List ℕ → S) (s : S) (text : List ℕ) (old : Option (List ℕ)) (m : S) (rest : List ℕ) (new : Option (List ℕ)) : Type 0 where
  pub shown : List ℕ
  pub grows : Appends old new shown
  pub same : (later : List ℕ) → shown ++ whole m (rest ++ later) ≡ whole s (text ++ later)
  pub session : (later : List ℕ) → after m (rest ++ later) ≡ after s (text ++ later)
