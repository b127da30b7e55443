use Rattle.std.proofs.Common.{◌≡◌, ℕ, ◌+◌, ◌<◌, List, [], ◌∷◌, ◌++◌, length, take, drop, map, set, get_or, sym, ◌∙◌, ap, arith}
use Rattle.std.proofs.Common.{append_assoc}
use Rattle.std.proofs.lemmas.List.{drop_more, take_more, set_at, get_or_at, get_or_read, map-append, length-map, length-take-le}
use Rattle.std.proofs.lemmas.List.{length-append, length-drop}
use Rattle.ix_transforms.specs.Seds.{swapped}
use Rattle.ix_transforms.proofs.swapping.swap_bytes.Goals as goal

-- one more of them becomes what it is to be
turn : (f : ℕ → ℕ) (start now : List ℕ) (i b : ℕ) → now ≡ map f (take i start) ++ drop i start → i < length start → b ≡ f (get_or now i 0) →
    set now i b ≡ map f (take (i + 1) start) ++ drop (i + 1) start
turn f start now i b so_far here becomes =
    let done = map f (take i start) in
    let rest = drop (i + 1) start in
    let x = get_or start i 0 in
    let front : length done ≡ i = length-map (take i start) f ∙ length-take-le i start (omega arith) in
    let split : now ≡ done ++ x ∷ rest = so_far ∙ ap (λ l. done ++ l) (drop_more start i 0 here) in
    let at : get_or now i 0 ≡ x = ap (λ l. get_or l i 0) split ∙ get_or_at done x rest 0 i front in
    ap (λ l. set l i b) split ∙ set_at done x rest b i front ∙ ap (λ y. done ++ y ∷ rest) (becomes ∙ ap f at)
    ∙ sym (append_assoc done (f x ∷ []) rest) ∙ ap (λ l. l ++ rest) (sym (map-append f (take i start) (x ∷ []))
    ∙ ap (map f) (sym (take_more start i 0 here)))

pub loop-at-preserved : goal.loop-at-preserved
loop-at-preserved c =
    let start = c.into_vec-items.result.items in
    let now = c.loop-at.items.items in
    let f = swapped c.args.from.now c.args.to.now in
    let here : c.loop-at.at < length start = omega arith in
    let long : length now ≡ length start =
    ap length c.loop-at.invariant ∙ length-append (map f (take c.loop-at.at start)) (drop c.loop-at.at start)
    ∙ omega (
      arith,
      length-map (take c.loop-at.at start) f,
      length-take-le c.loop-at.at start (omega arith),
      length-drop c.loop-at.at start,
    ) in
    let read : c.index.result.now ≡ get_or now c.loop-at.at 0 =
    get_or_read now c.loop-at.at c.index.result.now (omega arith) c.index.ensures 0 in
    turn f start now c.loop-at.at _ c.loop-at.invariant here (c.table-becomes.ensures c.index.result.now (omega arith) ∙ ap f read)
