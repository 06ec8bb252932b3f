use Rattle.std.proofs.Common.{◌≡◌, ◌+◌, List, ℕ, ◌++◌, length, take, drop, refl, sym, ap, ◌∙◌, arith, take_all, length-take-le, length-drop}
use Rattle.std.proofs.lemmas.List.Edits.{sets-eq}
use Rattle.std.proofs.lemmas.Slice.{put_mid-paste}
use Rattle.report.specs.CodeWriter.{appends}
use Rattle.report.proofs.puts.Writer.put.Goals as goal

pub returns : goal.returns
returns g c =
    let o : List ℕ = c.args.self.now.out.now in
    let w : List ℕ = c.args.w in
    let at : ℕ = c.args.self.now.at in
    let size : length w ≡ g.row.N = omega (arith, ap length c.copy_from_slice.ensures.after, length-take-le {A = ℕ}, length-drop {A = ℕ}) in
    appends
    refl
    (ap (λ (n : ℕ). at + n) (sym size))
    (put_mid-paste at _ o _ w (length w) c.copy_from_slice.ensures.after (omega arith) refl
    ∙ ap (λ (l : List ℕ). take at o ++ l ++ drop (at + length w) o) (take_all (length w) w (omega arith))
    ∙ sym (sets-eq w o at (omega arith)))
