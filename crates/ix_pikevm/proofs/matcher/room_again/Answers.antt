use Rattle.std.proofs.Common.{rules, ◌≡◌, length, sym, ◌∙◌, subst}
use Rattle.ix_pikevm.specs.Ran.{AreMarks}
use Rattle.ix_pikevm.specs.Programs.{AsksFit}
use Rattle.ix_pikevm.proofs.matcher.room_again.Goals as goal

pub returns : goal.returns
returns c =
    let room = c.in_ok-room.room in
    let made = c.in_ok-room.ensures in
    let looks : c.in_ok-looks.looks.items ≡ c.args.room.now.looks.items = search rules in
    record {
      main = (let e : c.len.result ≡ length c.args.finder.now.program.code.items = search rules in
          subst (λ n. AreMarks room.main.marks.items n room.main.stamp) e made.main);
      inner = (let e : c.len-2.result ≡ length c.args.finder.now.program.inner.items = search rules in
          subst (λ n. AreMarks room.inner.marks.items n room.inner.stamp) e made.inner);
      looks = subst (λ l. AsksFit c.args.finder.now.program.asks.items (length c.args.finder.now.program.inner.items) (length l))
          (sym (made.looks ∙ looks)) c.requires.looks;
    }
