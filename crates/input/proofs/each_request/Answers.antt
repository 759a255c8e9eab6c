use Rattle.std.proofs.Common.{◌≡◌, ℕ, List, [], ◌∷◌, ◌++◌, rules, arith, length, take, sym, ap, ◌∙◌, subst, refl, append-nil, length-append, length-take-le, take_all, ◌+◌}
use Rattle.std.specs.List.{concat}
use Rattle.std.proofs.lemmas.List.Elements.{All-push}
use Rattle.std.proofs.lemmas.List.Folds.{concat-append}
use Rattle.std.proofs.lemmas.Fn.{FoldsTo-push}
use Rattle.std.specs.Io.KnownBytes.{Consumes}
use Rattle.std.proofs.KnownBytes.{Consumes-trans}
use Rattle.input.proofs.each_request.Goals.{else-loop-turn-test, then-loop-turn-test+in_ok-read_full+then-branch-buf}
use Rattle.input.proofs.each_request.Goals as goal

concat_push : (xs : List (List ℕ)) (x : List ℕ) → concat xs ++ x ≡ concat (xs ++ (x ∷ []))
concat_push xs x = ap (λ y. concat xs ++ y) (sym (append-nil x)) ∙ sym (concat-append xs (x ∷ []))

pub loop-turn-preserved : goal.loop-turn-preserved
loop-turn-preserved g c =
    let v = c.loop-turn.invariant in
    let n = c.in_ok-read_full.field-0 in
    let buf = c.read_full.new.buf in
    let same : length buf ≡ length c.args.buf.now = search rules in
    let whole : take n buf ≡ buf = take_all n buf (omega arith) in
    let joined = ap (λ y. concat v.1 ++ y) whole ∙ concat_push v.1 buf in (
      same,
      v.1 ++ (buf ∷ []),
      length-append v.1 (buf ∷ []) ∙ ap (λ k. k + 1) v.2,
      All-push (λ (x : List ℕ). length x ≡ length c.args.buf.now) v.1 buf v.3 same,
      FoldsTo-push _ _ v.1 _ buf _ v.4 (record { shown = _; shows = refl; called = c.in_ok-answer.ensures }),
      subst (Consumes _ _) joined (Consumes-trans _ _ _ _ _ v.5 (c.in_ok-read_full.ensures.bytes)),
    )

pub returns : goal.returns
returns g c =
    let v = c.loop-turn.invariant in
    record {
      answered =
          elim c.loop-turn-test.branch [
            | else-loop-turn-test w ↦ (v.1, [], c.loop-turn.answer, v.3, v.4, rw (w.from-is, append-nil) v.5, λ few. absurd (omega arith))
            | then-loop-turn-test+in_ok-read_full+then-branch-buf w ↦ (v.1, take w.in_ok-read_full.field-0 w.read_full.new.buf, c.loop-turn.answer, v.3, v.4, rw w.from-is (Consumes-trans _ _ _ _ _ v.5 w.in_ok-read_full.ensures.bytes), λ few. (omega (arith, length-take-le w.in_ok-read_full.field-0 w.read_full.new.buf (omega arith)), rw w.from-is (w.in_ok-read_full.ensures.end (omega arith))))
          ];
    }
