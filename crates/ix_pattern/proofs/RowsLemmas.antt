-- Each tree of the list is made of its node, and the list may grow.
use Rattle.std.proofs.Common.{◌≡◌, ℕ, zero, suc, ◌+◌, ◌<◌, ◌≤◌, Bool, List, [], ◌∷◌, ◌++◌, length, take, drop, get_or, Some, refl, sym}
use Rattle.std.proofs.Common.{◌∙◌, ap, subst, arith}
use Rattle.std.specs.Prelude.{slice_get, unwrap_or}
use Rattle.std.specs.Option.{option_map}
use Rattle.std.proofs.lemmas.List.{length-append, length-map, map-append, length-take-le, take-append-drop, take-map}
use Rattle.std.proofs.lemmas.Option.{slice_get-map, slice_get_read}
use Rattle.ix_pattern.specs.Piece.{Piece, nothing}
use Rattle.ix_pattern.specs.Made.{Made}
use Rattle.ix_pattern.specs.Parts.{GrewBy}
use Rattle.ix_pattern.specs.declared.pattern.Node.{Node}
use Rattle.ix_pattern.specs.declared.pattern.Node.TheVariants.{Nothing, Bytes, Start, Finish, Word, Seq, Either, Count, Group, Ahead}
use Rattle.ix_pattern.specs.declared.pattern.Row.{Row}
use Rattle.ix_pattern.specs.Rows.{Rows, tree, rows_of, piece_at, piece_in, made, pieces_from, pieces, IsInside, AllInside, set_at, set_of}
use Rattle.ix_pattern.specs.Rows.{node_of, node_at, Shape, IsPattern, one_if_bytes, byte_pieces}

pub AllInside-push : (groups : ℕ) (k : ℕ) (rows : Rows) (node : Node) (set : List Bool) → AllInside groups k rows →
    IsInside groups node (k + length rows) →
    AllInside groups k (rows ++ (node, set) ∷ [])
AllInside-push groups k [] node set all h = (subst (IsInside groups node) (omega arith) h, tt)
AllInside-push groups k (row ∷ rows) node set all h =
    (all.0, AllInside-push groups (suc k) rows node set all.1 (subst (IsInside groups node) (omega arith) h))

pub AllInside-at : (groups : ℕ) (k : ℕ) (rows : Rows) (j : ℕ) (row : Node × List Bool) → AllInside groups k rows →
    slice_get rows j ≡ Some row → IsInside groups row.0 (k + j)
AllInside-at groups k [] j row all e = absurd (cc)
AllInside-at groups k (first ∷ rows) zero row all e =
    let same : first ≡ row = cc in
    subst (λ r. IsInside groups r.0 (k + 0)) same (subst (IsInside groups first.0) (omega arith) all.0)
AllInside-at groups k (first ∷ rows) (suc j) row all e =
    subst (IsInside groups row.0) (omega arith) (AllInside-at groups (suc k) rows j row all.1 e)

slice_get-append : (xs ys : List Piece) (k : ℕ) → k < length xs → slice_get (xs ++ ys) k ≡ slice_get xs k
slice_get-append [] ys k h = absurd (omega arith)
slice_get-append (x ∷ xs) ys zero h = refl
slice_get-append (x ∷ xs) ys (suc k) h = slice_get-append xs ys k (omega arith)

slice_get-seam : (xs ys : List Piece) (y : Piece) → slice_get (xs ++ y ∷ ys) (length xs) ≡ Some y
slice_get-seam [] ys y = refl
slice_get-seam (x ∷ xs) ys y = slice_get-seam xs ys y

pub piece_in-from : (done : List Piece) (rows : Rows) (j : ℕ) → j < length done → piece_in (pieces_from done rows) j ≡ piece_in done j
piece_in-from done [] j h = refl
piece_in-from done (row ∷ rows) j h =
    piece_in-from (done ++ made done row.0 row.1 ∷ []) rows j (omega (arith, length-append done (made done row.0 row.1 ∷ [])))
    ∙ ap (λ o. unwrap_or o nothing) (slice_get-append done (made done row.0 row.1 ∷ []) j h)

made-same : (groups : ℕ) (xs ys : List Piece) (node : Node) (set : List Bool) (k : ℕ) → IsInside groups node k →
    ((j : ℕ) → j < k → piece_in xs j ≡ piece_in ys j) → made xs node set ≡ made ys node set
made-same groups xs ys Nothing set k h same = refl
made-same groups xs ys Bytes set k h same = refl
made-same groups xs ys (Start lines) set k h same = refl
made-same groups xs ys (Finish lines) set k h same = refl
made-same groups xs ys Word set k h same = refl
made-same groups xs ys (Seq first rest) set k h same = cc (same first h.0, same rest h.1)
made-same groups xs ys (Either first other) set k h same = cc (same first h.0, same other h.1)
made-same groups xs ys (Count inside least most lazy) set k h same = cc (same inside h)
made-same groups xs ys (Group number inside) set k h same = cc (same inside h.0)
made-same groups xs ys (Ahead inside wanted) set k h same = cc (same inside h)

pub piece_in-made : (groups : ℕ) (done : List Piece) (rows : Rows) (j : ℕ) (row : Node × List Bool) → AllInside groups (length done) rows →
    slice_get rows j ≡ Some row →
    piece_in (pieces_from done rows) (length done + j) ≡ made (pieces_from done rows) row.0 row.1
piece_in-made groups done [] j row all e = absurd (cc)
piece_in-made groups done (first ∷ rows) zero row all e =
    let same : first ≡ row = cc in
    let m : Piece = made done first.0 first.1 in
    ap (piece_in (pieces_from done (first ∷ rows))) (omega arith)
    ∙ piece_in-from (done ++ made done first.0 first.1 ∷ []) rows (length done)
    (omega (arith, length-append done (made done first.0 first.1 ∷ [])))
    ∙ ap (λ o. unwrap_or o nothing) (slice_get-seam done [] (made done first.0 first.1))
    ∙ made-same groups done (pieces_from done (first ∷ rows)) first.0 first.1 (length done) all.0
    (λ i lt. sym (piece_in-from done (first ∷ rows) i lt))
    ∙ ap (λ r. made (pieces_from done (first ∷ rows)) r.0 r.1) same
piece_in-made groups done (first ∷ rows) (suc j) row all e =
    ap (piece_in (pieces_from done (first ∷ rows))) (omega (arith, length-append done (made done first.0 first.1 ∷ [])))
    ∙ piece_in-made groups (done ++ made done first.0 first.1 ∷ []) rows j row
    (subst (λ n. AllInside groups n rows) (omega (arith, length-append done (made done first.0 first.1 ∷ []))) all.1) e

row-at : (rows : List Row) (value : Rows) (k : ℕ) (row : Row) → rows_of rows ≡ value → k < length value → row ≡ get_or rows k row →
    slice_get value k ≡ Some (row.node, row.set)
row-at rows value k row is lt read =
    ap (λ v. slice_get v k) (sym is)
    ∙ slice_get-map (λ (r : Row). (r.node, r.set)) rows k
    ∙ ap (option_map (λ (r : Row). (r.node, r.set)))
    (slice_get_read rows (length rows) k row refl
    (omega (arith, ap length is, length-map {B = Node × List Bool} rows (λ (r : Row). (r.node, r.set)))) read)

-- what the node at a number is, as the model has it
pub row-is : (rows : List Row) (shape : Shape) (k : ℕ) (row : Row) → rows_of rows ≡ shape.rows → k < length shape.rows →
    row ≡ get_or rows k row →
    node_at shape.rows k ≡ Some row.node
row-is rows shape k row is lt read = ap node_of (row-at rows shape.rows k row is lt read)

pub node-is : (rows : List Row) (shape : Shape) (k : ℕ) (row : Row) → rows_of rows ≡ shape.rows → IsPattern shape → k < length shape.rows →
    row ≡ get_or rows k row → piece_at shape.rows k ≡ made (pieces shape.rows) row.node (set_at shape.rows k)
node-is rows shape k row is all lt read =
    let at : slice_get shape.rows k ≡ Some (row.node, row.set) = row-at rows shape.rows k row is lt read in
    ap (piece_in (pieces shape.rows)) (omega arith)
    ∙ piece_in-made shape.groups [] shape.rows k (row.node, row.set) all.inside at
    ∙ ap (λ o. made (pieces shape.rows) row.node (set_of o)) (sym at)

pub node-inside : (rows : List Row) (shape : Shape) (k : ℕ) (row : Row) → rows_of rows ≡ shape.rows → IsPattern shape →
    k < length shape.rows →
    row ≡ get_or rows k row → IsInside shape.groups row.node k
node-inside rows shape k row is all lt read =
    subst (IsInside shape.groups row.node) (omega arith)
    (AllInside-at shape.groups 0 shape.rows k (row.node, row.set) all.inside (row-at rows shape.rows k row is lt read))

pieces-push : (done : List Piece) (rows : Rows) (row : Node × List Bool) →
    pieces_from done (rows ++ row ∷ []) ≡ pieces_from done rows ++ made (pieces_from done rows) row.0 row.1 ∷ []
pieces-push done [] row = refl
pieces-push done (first ∷ rows) row = pieces-push (done ++ made done first.0 first.1 ∷ []) rows row

length-pieces : (done : List Piece) (rows : Rows) → length (pieces_from done rows) ≡ length done + length rows
length-pieces done [] = omega arith
length-pieces done (row ∷ rows) =
    omega (arith, length-pieces (done ++ made done row.0 row.1 ∷ []) rows, length-append done (made done row.0 row.1 ∷ []))

-- the piece that is added
pub push-made : (rows : Rows) (row : Node × List Bool) → piece_at (rows ++ row ∷ []) (length rows) ≡ made (pieces rows) row.0 row.1
push-made rows row =
    ap (λ l. piece_in l (length rows)) (pieces-push [] rows row)
    ∙ ap (λ n. piece_in (pieces rows ++ made (pieces rows) row.0 row.1 ∷ []) n) (sym (length-pieces [] rows ∙ omega arith))
    ∙ ap (λ o. unwrap_or o nothing) (slice_get-seam (pieces rows) [] (made (pieces rows) row.0 row.1))

-- those that were there stay
pub push-stay : (rows : Rows) (row : Node × List Bool) (k : ℕ) → k < length rows → piece_at (rows ++ row ∷ []) k ≡ piece_at rows k
push-stay rows row k h =
    ap (λ l. piece_in l k) (pieces-push [] rows row)
    ∙ ap (λ o. unwrap_or o nothing)
    (slice_get-append (pieces rows) (made (pieces rows) row.0 row.1 ∷ []) k (omega (arith, length-pieces [] rows)))

byte_pieces-append : (xs ys : Rows) → byte_pieces (xs ++ ys) ≡ byte_pieces xs + byte_pieces ys
byte_pieces-append [] ys = omega arith
byte_pieces-append (x ∷ xs) ys = omega (arith, byte_pieces-append xs ys)

pub push-grew : (old new : Made) (row : Node × List Bool) → new.groups ≡ old.groups → new.rows ≡ old.rows ++ row ∷ [] →
    GrewBy (one_if_bytes row.0) old new
push-grew old new row g e = record {
  groups = g;
  longer = omega (arith, ap length e, length-append old.rows (row ∷ []));
  stay = λ k h. ap (λ r. piece_at r k) e ∙ push-stay old.rows row k h;
  bytes = omega (arith, ap byte_pieces e, byte_pieces-append old.rows (row ∷ []));
}

rows-more : (rows more : List Row) (row : Row) → more ≡ rows ++ row ∷ [] → rows_of more ≡ rows_of rows ++ (row.node, row.set) ∷ []
rows-more rows more row e = ap rows_of e ∙ map-append (λ (r : Row). (r.node, r.set)) rows (row ∷ [])

pub work-inside : (rows more : List Row) (groups : ℕ) (now : Made) (row : Row) → record { rows = rows_of rows; groups = groups } ≡ now →
    AllInside groups 0 (rows_of rows) → IsInside now.groups row.node (length now.rows) → more ≡ rows ++ row ∷ [] →
    AllInside groups 0 (rows_of more)
work-inside rows more groups now row is all h e =
    let g : now.groups ≡ groups = sym (ap (λ (m : Made). m.groups) is) in
    let l : length now.rows ≡ 0 + length (rows_of rows) = ap (λ (m : Made). length m.rows) (sym is) ∙ omega arith in
    rw (rows-more rows more row e)
    (AllInside-push groups 0 (rows_of rows) row.node row.set all
    (subst (λ n. IsInside n row.node (0 + length (rows_of rows))) g (subst (λ k. IsInside now.groups row.node k) l h)))

pub work-made : (rows more : List Row) (groups : ℕ) (now : Made) (row : Row) (k : ℕ) →
    record { rows = rows_of rows; groups = groups } ≡ now →
    k ≡ length now.rows → more ≡ rows ++ row ∷ [] → piece_at (rows_of more) k ≡ made (pieces now.rows) row.node row.set
work-made rows more groups now row k is at e =
    ap (λ r. piece_at r k) (rows-more rows more row e ∙ ap (λ (m : Made). m.rows ++ (row.node, row.set) ∷ []) is)
    ∙ ap (piece_at (now.rows ++ (row.node, row.set) ∷ [])) at
    ∙ push-made now.rows (row.node, row.set)

pub work-grew : (rows more : List Row) (groups : ℕ) (now : Made) (row : Row) → record { rows = rows_of rows; groups = groups } ≡ now →
    more ≡ rows ++ row ∷ [] → GrewBy (one_if_bytes row.node) now (record { rows = rows_of more; groups = groups })
work-grew rows more groups now row is e =
    push-grew now (record { rows = rows_of more; groups = groups }) (row.node, row.set) (ap (λ (m : Made). m.groups) is)
    (rows-more rows more row e ∙ ap (λ (m : Made). m.rows ++ (row.node, row.set) ∷ []) is)

pieces-behind : (done : List Piece) (xs ys : Rows) → pieces_from done (xs ++ ys) ≡ pieces_from (pieces_from done xs) ys
pieces-behind done [] ys = refl
pieces-behind done (x ∷ xs) ys = pieces-behind (done ++ made done x.0 x.1 ∷ []) xs ys

-- what stands behind changes no piece
pub piece-front : (xs ys : Rows) (k : ℕ) → k < length xs → piece_at (xs ++ ys) k ≡ piece_at xs k
piece-front xs ys k h =
    ap (λ l. piece_in l k) (pieces-behind [] xs ys) ∙ piece_in-from (pieces xs) ys k (omega (arith, length-pieces [] xs))

AllInside-front : (groups k : ℕ) (xs ys : Rows) → AllInside groups k (xs ++ ys) → AllInside groups k xs
AllInside-front groups k [] ys all = tt
AllInside-front groups k (x ∷ xs) ys all = (all.0, AllInside-front groups (suc k) xs ys all.1)

-- the pieces up to one of them, of which that is the whole
pub cut-tree : (rows : List Row) (made : Made) (k : ℕ) → rows_of rows ≡ made.rows → k < length made.rows →
    tree (rows_of (take (k + 1) rows)) ≡ piece_at made.rows k
cut-tree rows made k is lt =
    let cut : rows_of (take (k + 1) rows) ≡ take (k + 1) made.rows =
    sym (take-map (λ (r : Row). (r.node, r.set)) (k + 1) rows) ∙ ap (take (k + 1)) is in
    let long : length (take (k + 1) made.rows) ≡ k + 1 = length-take-le (k + 1) made.rows (omega arith) in
    ap tree cut
    ∙ ap (piece_at (take (k + 1) made.rows)) (omega (arith, long))
    ∙ sym (piece-front (take (k + 1) made.rows) (drop (k + 1) made.rows) k (omega (arith, long)))
    ∙ ap (λ r. piece_at r k) (take-append-drop (k + 1) made.rows)

pub cut-rooted : (rows : List Row) (made : Made) (k : ℕ) → rows_of rows ≡ made.rows → k < length made.rows →
    0 < length (rows_of (take (k + 1) rows))
cut-rooted rows made k is lt =
    let cut : rows_of (take (k + 1) rows) ≡ take (k + 1) made.rows =
    sym (take-map (λ (r : Row). (r.node, r.set)) (k + 1) rows) ∙ ap (take (k + 1)) is in
    omega (arith, ap length cut, length-take-le (k + 1) made.rows (omega arith))

pub cut-inside : (rows : List Row) (groups : ℕ) (n : ℕ) → AllInside groups 0 (rows_of rows) → AllInside groups 0 (rows_of (take n rows))
cut-inside rows groups n all =
    subst (AllInside groups 0) (take-map (λ (r : Row). (r.node, r.set)) n rows)
    (AllInside-front groups 0 (take n (rows_of rows)) (drop n (rows_of rows))
    (subst (AllInside groups 0) (sym (take-append-drop n (rows_of rows))) all))

pub cut-bytes : (rows : List Row) (value : Rows) (n : ℕ) → rows_of rows ≡ value → byte_pieces (rows_of (take n rows)) ≤ byte_pieces value
cut-bytes rows value n is =
    let cut : rows_of (take n rows) ≡ take n value = sym (take-map (λ (r : Row). (r.node, r.set)) n rows) ∙ ap (take n) is in
    omega (arith, ap byte_pieces cut, byte_pieces-append (take n value) (drop n value), ap byte_pieces (take-append-drop n value))
