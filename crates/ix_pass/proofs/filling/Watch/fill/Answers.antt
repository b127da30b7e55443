use Rattle.std.proofs.Common.{◌≡◌, ◌≤◌, ◌+◌, ◌-◌, ℕ, true, List, [], ◌∷◌, ◌++◌, length, take, drop, refl, sym, ◌∙◌, subst}
use Rattle.std.proofs.Common.{arith}
use Rattle.std.specs.Prelude.{Result, Ok, Err}
use Rattle.std.proofs.lemmas.List.{length-take, length-take-le}
use Rattle.ix_base.specs.Told.{IsFrontOf}
use Rattle.ix_disk.proofs.Runs.{rose_later}
use Rattle.ix_model.specs.declared.commands.TimedCommand.{TimedCommand}
use Rattle.ix_run.specs.declared.giving.GiveFault.{GiveFault}
use Rattle.ix_store.proofs.Booked.{all_more}
use Rattle.ix_pass.specs.Blocks.{IsPiece}
use Rattle.ix_pass.specs.Giving.{Tried, Went, kind, change}
use Rattle.ix_watch.specs.Visits.{joined, adds, IsFull}
use Rattle.ix_pass.specs.declared.fault.PassFault.{PassFault}
use Rattle.ix_pass.specs.declared.fault.PassFault.TheVariants as stops
use Rattle.ix_pass.proofs.Blocking.{stops_at, tried_block}
use Rattle.ix_pass.proofs.Filled.{Came, joined_length, last_is, all_are, add_nil, came_none, came_more, came_front, came_all, told_more}
use Rattle.ix_pass.proofs.Filled.{told_one, told_any, gave_all}
use Rattle.ix_pass.proofs.Going.{went_none, tried_none}
use Rattle.ix_pass.proofs.filling.Watch.fill.Goals as goal

not_input : {given : GiveFault} → (let result : Result ℕ PassFault = Err (stops.Given given) in result ≡ Err stops.Input) → ⊥
not_input is = cc

not_ok : {at : ℕ} → (let result : Result ℕ PassFault = Ok at in result ≡ Err stops.Input) → ⊥
not_ok is = cc

pub loop-at-init : goal.loop-at-init
loop-at-init g c = record {
  blocks = [];
  full = tt;
  count = add_nil c.args.from;
  within = c.requires.from;
  read = told_any (Came c.args.from c.args.from []) (came_none c.args.from) c.args.self.path.now (g.T.Tree.files c.args.tree.now);
  tried = tried_none (g.C.Clock.ahead c.args.clock.now)
      (λ (orders : List TimedCommand). Went g.D.Disk (kind g.M.StoreMemory.is_chooser g.M.StoreMemory.takes g.M.Book.ManifestState.fits
      g.M.StoreMemory.holds) (Ok tt) orders (change c.args.store.now c.args.disk.now c.args.store.now c.args.disk.now))
      (went_none g.D.Disk g.M.StoreMemory.is_chooser g.M.StoreMemory.takes g.M.Book.ManifestState.fits g.M.StoreMemory.holds
      g.met.M.StoreMemory.ticks_are_taken c.args.store.now c.args.disk.now c.requires.over);
  over = c.requires.over;
  room = c.requires.room;
  same = refl;
  later = omega arith;
  later_missing = omega arith;
}

pub returns-in-Err : goal.returns-in-Err
returns-in-Err g c = let i = c.loop-at.invariant in record {
  fills = record {
    blocks = i.blocks;
    sizes = all_are i.blocks i.full;
    within = omega (arith, i.count, i.within);
    reached = tt;
    read = told_one (Came c.args.from c.loop-at.at (joined i.blocks))
        (λ (bytes : List ℕ). IsFrontOf (joined i.blocks) (drop c.args.from bytes))
        (came_front c.args.from c.loop-at.at (joined i.blocks)) c.args.self.path.now (g.T.Tree.files c.args.tree.now) i.read;
    tried = subst (λ (r : Result Unit GiveFault). Tried true (adds c.args.self.path.now c.args.self.head.now c.args.from i.blocks)
        (g.C.Clock.ahead c.args.clock.now) (g.C.Clock.ahead c.loop-at.clock)
        (λ (orders : List TimedCommand). Went g.D.Disk (kind g.M.StoreMemory.is_chooser g.M.StoreMemory.takes g.M.Book.ManifestState.fits
        g.M.StoreMemory.holds) r orders (change c.args.store.now c.args.disk.now c.loop-at.store c.loop-at.disk)))
        (sym (gave_all c.in-Err.fault c.in-Err.ensures.not_given)) i.tried;
  };
  failed = λ is. rose_later (g.T.Tree.faults c.args.tree.now) (g.T.Tree.faults c.loop-at.tree) (g.T.Tree.faults c.read_piece.new.tree)
      i.later (c.in-Err.ensures.failed is);
  same = c.read_piece.ensures.same ∙ i.same;
  later = omega (arith, i.later, c.read_piece.ensures.later);
  later_missing = omega (arith, i.later_missing, c.read_piece.ensures.later_missing);
}

pub returns-then-n-eq0 : goal.returns-then-n-eq0
returns-then-n-eq0 g c = let i = c.loop-at.invariant in record {
  fills = record {
    blocks = i.blocks;
    sizes = all_are i.blocks i.full;
    within = omega (arith, i.count, i.within);
    reached = i.count;
    read = told_more (Came c.args.from c.loop-at.at (joined i.blocks))
        (λ (bytes : List ℕ). IsPiece bytes c.loop-at.at c.args.self.size c.in-Ok.n c.read_piece.new.room)
        (λ (bytes : List ℕ). joined i.blocks ≡ take (c.args.self.size - c.args.from) (drop c.args.from bytes))
        (λ bytes came piece. came_all c.args.from c.loop-at.at c.args.self.size (joined i.blocks) bytes (omega (arith, i.count)) i.within
        (λ less. (let short : length bytes ≤ c.loop-at.at + c.in-Ok.n = stops_at (length c.read_piece.new.room) c.args.self.size
        c.loop-at.at (length bytes) c.in-Ok.n piece.many
        (omega (arith, c.if-n-eq0.true, c.read_piece.auto.room, i.room)) (omega (arith, c.if-n-eq0.true, less)) in
        omega (arith, c.if-n-eq0.true, short))) came)
        c.args.self.path.now (g.T.Tree.files c.args.tree.now) (g.T.Tree.files c.loop-at.tree) i.same i.read c.in-Ok.ensures.piece;
    tried = i.tried;
  };
  failed = λ is. absurd (not_ok is);
  same = c.read_piece.ensures.same ∙ i.same;
  later = omega (arith, i.later, c.read_piece.ensures.later);
  later_missing = omega (arith, i.later_missing, c.read_piece.ensures.later_missing);
}

pub returns-in-Err-add : goal.returns-in-Err-add
returns-in-Err-add g c =
    let i = c.loop-at.invariant in
    let bytes : List ℕ = take c.in-Ok.n c.read_piece.new.room in
    let size : length bytes ≡ c.in-Ok.n = length-take-le c.in-Ok.n c.read_piece.new.room c.in-Ok.ensures.room in
    record {
      fills = record {
        blocks = i.blocks ++ bytes ∷ [];
        sizes = last_is i.blocks bytes i.full (omega (arith, size, c.if-n-eq0.false))
            (omega (arith, size, c.in-Ok.ensures.room, c.read_piece.auto.room, i.room));
        within = omega (arith, joined_length i.blocks bytes, size, i.count, c.in-Ok.ensures.within);
        reached = tt;
        read = told_more (Came c.args.from c.loop-at.at (joined i.blocks))
            (λ (all : List ℕ). IsPiece all c.loop-at.at c.args.self.size c.in-Ok.n c.read_piece.new.room)
            (λ (all : List ℕ). IsFrontOf (joined (i.blocks ++ bytes ∷ [])) (drop c.args.from all))
            (λ all came piece. came_front c.args.from (c.loop-at.at + c.in-Ok.n) (joined (i.blocks ++ bytes ∷ [])) all
            (came_more c.args.from c.loop-at.at c.args.self.size c.in-Ok.n i.blocks c.read_piece.new.room all (omega (arith, i.count)) came
            piece))
            c.args.self.path.now (g.T.Tree.files c.args.tree.now) (g.T.Tree.files c.loop-at.tree) i.same i.read c.in-Ok.ensures.piece;
        tried = tried_block g.D.Disk g.M.StoreMemory.is_chooser g.M.StoreMemory.takes g.M.Book.ManifestState.fits g.M.StoreMemory.holds
            g.met.M.StoreMemory.ticks_are_taken (Err c.in-Err-add.fault)
            c.args.self.path.now c.args.self.head.now c.args.from c.loop-at.at i.blocks bytes (g.C.Clock.ahead c.args.clock.now)
            (g.C.Clock.ahead c.loop-at.clock) (g.C.Clock.ahead c.add.new.clock)
            c.args.store.now c.loop-at.store c.add.new.store c.args.disk.now c.loop-at.disk c.add.new.disk i.count i.tried
            c.in-Err-add.ensures;
      };
      failed = λ is. absurd (not_input is);
      same = c.read_piece.ensures.same ∙ i.same;
      later = omega (arith, i.later, c.read_piece.ensures.later);
      later_missing = omega (arith, i.later_missing, c.read_piece.ensures.later_missing);
    }

pub returns : goal.returns
returns g c = let i = c.loop-at.invariant in record {
  fills = record {
    blocks = i.blocks;
    sizes = all_are i.blocks i.full;
    within = omega (arith, i.count, i.within);
    reached = i.count;
    read = told_one (Came c.args.from c.loop-at.at (joined i.blocks))
        (λ (bytes : List ℕ). joined i.blocks ≡ take (c.args.self.size - c.args.from) (drop c.args.from bytes))
        (λ bytes came. came_all c.args.from c.loop-at.at c.args.self.size (joined i.blocks) bytes (omega (arith, i.count)) i.within
        (λ less. absurd (omega (arith, c.loop-at-test.false, less))) came)
        c.args.self.path.now (g.T.Tree.files c.args.tree.now) i.read;
    tried = i.tried;
  };
  failed = λ is. absurd (not_ok is);
  same = i.same;
  later = i.later;
  later_missing = i.later_missing;
}

pub add-requires-clause-over : goal.add-requires-clause-over
add-requires-clause-over g c = c.loop-at.invariant.over

pub add-requires-clause-takes : goal.add-requires-clause-takes
add-requires-clause-takes g c = λ moment. c.requires.takes moment c.loop-at.at (take c.in-Ok.n c.read_piece.new.room)
    (omega (arith, length-take c.in-Ok.n c.read_piece.new.room, c.in-Ok.ensures.room, c.read_piece.auto.room, c.loop-at.invariant.room))

pub returns-then-n-room : goal.returns-then-n-room
returns-then-n-room g c =
    let i = c.loop-at.invariant in
    let bytes : List ℕ = take c.in-Ok.n c.read_piece.new.room in
    let size : length bytes ≡ c.in-Ok.n = length-take-le c.in-Ok.n c.read_piece.new.room c.in-Ok.ensures.room in
    record {
      fills = record {
        blocks = i.blocks ++ bytes ∷ [];
        sizes = last_is i.blocks bytes i.full (omega (arith, size, c.if-n-eq0.false))
            (omega (arith, size, c.in-Ok.ensures.room, c.read_piece.auto.room, i.room));
        within = omega (arith, joined_length i.blocks bytes, size, i.count, c.in-Ok.ensures.within);
        reached = omega (arith, joined_length i.blocks bytes, size, i.count);
        read = told_more (Came c.args.from c.loop-at.at (joined i.blocks))
            (λ (all : List ℕ). IsPiece all c.loop-at.at c.args.self.size c.in-Ok.n c.read_piece.new.room)
            (λ (all : List ℕ). joined (i.blocks ++ bytes ∷ []) ≡ take (c.args.self.size - c.args.from) (drop c.args.from all))
            (λ all came piece. came_all c.args.from (c.loop-at.at + c.in-Ok.n) c.args.self.size (joined (i.blocks ++ bytes ∷ [])) all
            (omega (arith, i.count)) c.in-Ok.ensures.within
            (stops_at (length c.read_piece.new.room) c.args.self.size c.loop-at.at (length all) c.in-Ok.n piece.many c.if-n-room.true)
            (came_more c.args.from c.loop-at.at c.args.self.size c.in-Ok.n i.blocks c.read_piece.new.room all (omega (arith, i.count)) came
            piece))
            c.args.self.path.now (g.T.Tree.files c.args.tree.now) (g.T.Tree.files c.loop-at.tree) i.same i.read c.in-Ok.ensures.piece;
        tried = tried_block g.D.Disk g.M.StoreMemory.is_chooser g.M.StoreMemory.takes g.M.Book.ManifestState.fits g.M.StoreMemory.holds
            g.met.M.StoreMemory.ticks_are_taken (Ok tt)
            c.args.self.path.now c.args.self.head.now c.args.from c.loop-at.at i.blocks bytes (g.C.Clock.ahead c.args.clock.now)
            (g.C.Clock.ahead c.loop-at.clock) (g.C.Clock.ahead c.add.new.clock)
            c.args.store.now c.loop-at.store c.add.new.store c.args.disk.now c.loop-at.disk c.add.new.disk i.count i.tried
            c.in-Ok-add.ensures;
      };
      failed = λ is. absurd (not_ok is);
      same = c.read_piece.ensures.same ∙ i.same;
      later = omega (arith, i.later, c.read_piece.ensures.later);
      later_missing = omega (arith, i.later_missing, c.read_piece.ensures.later_missing);
    }

pub loop-at-preserved : goal.loop-at-preserved
loop-at-preserved g c =
    let i = c.loop-at.invariant in
    let bytes : List ℕ = take c.in-Ok.n c.read_piece.new.room in
    let size : length bytes ≡ c.in-Ok.n = length-take-le c.in-Ok.n c.read_piece.new.room c.in-Ok.ensures.room in
    record {
      blocks = i.blocks ++ bytes ∷ [];
      full = all_more IsFull i.blocks (bytes ∷ []) i.full
          (omega (arith, size, c.if-n-room.false, c.in-Ok.ensures.room, c.read_piece.auto.room, i.room), tt);
      count = omega (arith, joined_length i.blocks bytes, size, i.count);
      within = c.in-Ok.ensures.within;
      read = told_more (Came c.args.from c.loop-at.at (joined i.blocks))
          (λ (all : List ℕ). IsPiece all c.loop-at.at c.args.self.size c.in-Ok.n c.read_piece.new.room)
          (Came c.args.from (c.loop-at.at + c.in-Ok.n) (joined (i.blocks ++ bytes ∷ [])))
          (λ all came piece. came_more c.args.from c.loop-at.at c.args.self.size c.in-Ok.n i.blocks c.read_piece.new.room all
          (omega (arith, i.count)) came piece)
          c.args.self.path.now (g.T.Tree.files c.args.tree.now) (g.T.Tree.files c.loop-at.tree) i.same i.read c.in-Ok.ensures.piece;
      tried = tried_block g.D.Disk g.M.StoreMemory.is_chooser g.M.StoreMemory.takes g.M.Book.ManifestState.fits g.M.StoreMemory.holds
          g.met.M.StoreMemory.ticks_are_taken (Ok tt)
          c.args.self.path.now c.args.self.head.now c.args.from c.loop-at.at i.blocks bytes (g.C.Clock.ahead c.args.clock.now)
          (g.C.Clock.ahead c.loop-at.clock) (g.C.Clock.ahead c.add.new.clock)
          c.args.store.now c.loop-at.store c.add.new.store c.args.disk.now c.loop-at.disk c.add.new.disk i.count i.tried
          c.in-Ok-add.ensures;
      over = c.in-Ok-add.ensures.done.over refl;
      room = omega (arith, c.read_piece.auto.room, i.room);
      same = c.read_piece.ensures.same ∙ i.same;
      later = omega (arith, i.later, c.read_piece.ensures.later);
      later_missing = omega (arith, i.later_missing, c.read_piece.ensures.later_missing);
    }
