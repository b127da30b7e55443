use Rattle.std.proofs.Common.{rules, ◌≡◌, [], Some, length, inl, inr, sym, ◌∙◌, ap, subst, arith}
use Rattle.std.specs.Prelude.{slice_get}
use Rattle.std.proofs.lemmas.Option.{slice_get_within}
use Rattle.ix_pikevm.specs.Ran.{AreMarks}
use Rattle.ix_pikevm.proofs.matcher.room_of.Goals as goal

pub returns : goal.returns
returns c =
    let room = c.in_ok-room.room in
    let made = c.in_ok-room.ensures in
    let fit = c.requires.program.fit in
    record {
      main = (let e : c.len.result ≡ length c.args.finder.now.program.code.items = search rules in
          subst (λ n. AreMarks room.main.marks.items n room.main.stamp) e made.main);
      inner = (let e : c.len-2.result ≡ length c.args.finder.now.program.inner.items = search rules in
          subst (λ n. AreMarks room.inner.marks.items n room.inner.stamp) e made.inner);
      looks = λ k ask got. (
        (fit k ask got).0,
        elim c.in_ok-looks.ensures [
          | inl none ↦
              (let here : slice_get [] k ≡ Some ask = ap (λ l. slice_get l k) (sym none ∙ c.deref.ensures.value) ∙ got in
              let within = slice_get_within [] k ask here in absurd (omega (arith, within)))
          | inr all ↦ (let e = ap length made.looks in let low = (fit k ask got).1 in omega (arith, e, all, low))
        ],
      );
    }
