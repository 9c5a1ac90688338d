-- The nodes of points that are built.
use Rattle.std.proofs.Common.{◌≡◌, ◌∙◌, ℕ, zero, suc, ◌+◌, ◌*◌, ◌<◌, ◌≤◌, nat_le, nat_lt, not, Bool, List, [], ◌∷◌, ◌++◌, length, map, sum_by, All, Some, refl, sym, ap, append_assoc, arith}
use Rattle.std.proofs.lemmas.Bool.Decides.{nat_tests}
use Rattle.std.proofs.lemmas.List.{append-nil, map-append}
use Rattle.std.proofs.lemmas.List.Elements.{All-append, All-cons, All-nil, All-filter, All-pop}
use Rattle.std.proofs.lemmas.List.Filters.{sum_by-filter_both}
use Rattle.std.proofs.lemmas.List.Sums.{length-filter, count_by-le-length, sum_by-cons, sum_by-append}
use Rattle.media_types.specs.Distance.{distance_of}
use Rattle.media_types.specs.declared.numbers.HashNo.{HashNo}
use Rattle.vp_tree.specs.declared.building.Point.{Point}
use Rattle.vp_tree.specs.declared.node.NodeView.{NodeView}
use Rattle.vp_tree.specs.Building.{least_radius, inner_part, outer_part, built_node, built_in, built_of, first_built, left_parts}

turned : (m n : ℕ) → nat_lt n m ≡ not (nat_le m n)
turned m n = grind (arith, nat_tests)

-- each of the other points lies in one of the two parts
pub sum_by-parts : (g : Point → ℕ) (p : Point) (qs : List Point) → sum_by g (inner_part p qs) + sum_by g (outer_part p qs) ≡ sum_by g qs
sum_by-parts g p qs =
    sum_by-filter_both (λ q. nat_le (distance_of q.word p.word) (least_radius p qs)) (λ q. nat_lt (least_radius p qs) (distance_of q.word p.word))
    (λ q. turned (distance_of q.word p.word) (least_radius p qs)) g qs

pub inner-short : (p : Point) (qs : List Point) → length (inner_part p qs) ≤ length qs
inner-short p qs =
    let test : Point → Bool = λ q. nat_le (distance_of q.word p.word) (least_radius p qs) in
    omega (arith, length-filter test qs, count_by-le-length test qs)

pub outer-short : (p : Point) (qs : List Point) → length (outer_part p qs) ≤ length qs
outer-short p qs =
    let test : Point → Bool = λ q. nat_lt (least_radius p qs) (distance_of q.word p.word) in
    omega (arith, length-filter test qs, count_by-le-length test qs)

both-same : (b : HashNo × NodeView) (xs ys us vs : List (HashNo × NodeView)) → xs ≡ us → ys ≡ vs → b ∷ (xs ++ ys) ≡ b ∷ (us ++ vs)
both-same b xs ys us vs e f = rw (e, f) refl

-- as many levels as there are points give all nodes
built_in-same : (f h : ℕ) (ps : List Point) → length ps ≤ f → length ps ≤ h → built_in f ps ≡ built_in h ps
built_in-same zero zero ps a b = refl
built_in-same zero (suc h) [] a b = refl
built_in-same zero (suc h) (p ∷ qs) a b = absurd (omega (arith, a))
built_in-same (suc f) zero [] a b = refl
built_in-same (suc f) zero (p ∷ qs) a b = absurd (omega (arith, b))
built_in-same (suc f) (suc h) [] a b = refl
built_in-same (suc f) (suc h) (p ∷ qs) a b =
    both-same (p.number, built_node p qs) _ _ _ _
    (built_in-same f h (inner_part p qs) (omega (arith, a, inner-short p qs)) (omega (arith, b, inner-short p qs)))
    (built_in-same f h (outer_part p qs) (omega (arith, a, outer-short p qs)) (omega (arith, b, outer-short p qs)))

-- the nodes of points are the first one's, and those of its two parts
pub built-step : (p : Point) (qs : List Point)
    → built_of (p ∷ qs) ≡ (p.number, built_node p qs) ∷ (built_of (inner_part p qs) ++ built_of (outer_part p qs))
built-step p qs =
    both-same (p.number, built_node p qs) _ _ _ _
    (built_in-same (length qs) (length (inner_part p qs)) (inner_part p qs) (inner-short p qs) (omega arith))
    (built_in-same (length qs) (length (outer_part p qs)) (outer_part p qs) (outer-short p qs) (omega arith))

-- the nodes of the parts that are left on a stack
abbrev pub left_built : List (List Point) → List (HashNo × NodeView)
left_built [] = []
left_built (ps ∷ pss) = left_built pss ++ built_of ps

left_built-append : (xs ys : List (List Point)) → left_built (xs ++ ys) ≡ left_built ys ++ left_built xs
left_built-append [] ys = sym (append-nil (left_built ys))
left_built-append (x ∷ xs) ys = ap (λ bs. bs ++ built_of x) (left_built-append xs ys) ∙ append_assoc (left_built ys) (left_built xs) (built_of x)

-- a part is taken from the stack: its first node is done, and its own parts are left
pub left-more : (nodes : List (HashNo × NodeView)) (stack : List (List Point)) (part : List Point)
    → (nodes ++ first_built part) ++ left_built (stack ++ left_parts part) ≡ nodes ++ left_built (stack ++ part ∷ [])
left-more nodes stack [] =
    rw (append-nil nodes, append-nil stack, left_built-append stack ([] ∷ [])) refl
left-more nodes stack (p ∷ qs) =
    let after : left_built (stack ++ left_parts (p ∷ qs)) ≡ (built_of (inner_part p qs) ++ built_of (outer_part p qs)) ++ left_built stack =
    left_built-append stack (left_parts (p ∷ qs)) in
    let before : left_built (stack ++ (p ∷ qs) ∷ []) ≡ built_of (p ∷ qs) ++ left_built stack = left_built-append stack ((p ∷ qs) ∷ []) in
    ap (λ bs. (nodes ++ first_built (p ∷ qs)) ++ bs) after
    ∙ append_assoc nodes (first_built (p ∷ qs)) ((built_of (inner_part p qs) ++ built_of (outer_part p qs)) ++ left_built stack)
    ∙ sym (ap (λ bs. nodes ++ bs) (before ∙ ap (λ bs. bs ++ left_built stack) (built-step p qs)))

pub length-sum : {X : Type 0} (xs : List X) → length xs ≡ sum_by (λ _. 1) xs
length-sum [] = refl
length-sum (x ∷ xs) = omega (arith, sum_by-cons (λ _. 1) x xs, length-sum xs)

abbrev work : List Point → ℕ
work ps = 2 * length ps + 1

-- the work that is left is less
pub left-less : (stack : List (List Point)) (part : List Point) → sum_by work (stack ++ left_parts part) < sum_by work (stack ++ part ∷ [])
left-less stack [] =
    omega (arith, sum_by-append work stack ([] ∷ []), ap (sum_by work) (append-nil stack), sum_by-cons work [] [])
left-less stack (p ∷ qs) =
    let both : length (inner_part p qs) + length (outer_part p qs) ≡ length qs = omega (arith, length-sum (inner_part p qs), length-sum (outer_part p qs), length-sum qs, sum_by-parts (λ _. 1) p qs) in
    omega (
      arith,
      both,
      sum_by-append work stack (left_parts (p ∷ qs)),
      sum_by-append work stack ((p ∷ qs) ∷ []),
      sum_by-cons work (outer_part p qs) (inner_part p qs ∷ []),
      sum_by-cons work (inner_part p qs) [],
      sum_by-cons work (p ∷ qs) [],
    )

pub left-few : (n : ℕ) (stack : List (List Point)) (part : List Point) → All (λ ps. length ps ≤ n) stack → length part ≤ n
    → All (λ ps. length ps ≤ n) (stack ++ left_parts part)
left-few n stack [] few h = rw (append-nil stack) few
left-few n stack (p ∷ qs) few h =
    All-append (λ ps. length ps ≤ n) stack (left_parts (p ∷ qs)) few
    (All-cons (λ ps. length ps ≤ n) (outer_part p qs) (inner_part p qs ∷ []) (omega (arith, h, outer-short p qs))
    (All-cons (λ ps. length ps ≤ n) (inner_part p qs) [] (omega (arith, h, inner-short p qs)) (All-nil (λ ps. length ps ≤ n))))

-- a stack of values that hold points, from which a part was taken, and onto which its own parts were put
taken : {V : Type 0} (f : V → List Point) (old rest : List V) (part : V) → old ≡ rest ++ part ∷ [] → map f old ≡ map f rest ++ f part ∷ []
taken f old rest part e = ap (map f) e ∙ map-append f rest (part ∷ [])

pub stack-smaller : {V : Type 0} (f : V → List Point) (old rest new : List V) (part : V) (points : List Point) → old ≡ rest ++ part ∷ []
    → points ≡ f part → map f new ≡ map f rest ++ left_parts points → sum_by work (map f new) < sum_by work (map f old)
stack-smaller f old rest new part points e is put =
    omega (
      arith,
      left-less (map f rest) (f part),
      ap (sum_by work) (taken f old rest part e),
      ap (sum_by work) (put ∙ ap (λ ps. map f rest ++ left_parts ps) is),
    )

pub stack-few : {V : Type 0} (n : ℕ) (f : V → List Point) (old rest new : List V) (part : V) (points : List Point) → old ≡ rest ++ part ∷ []
    → points ≡ f part → map f new ≡ map f rest ++ left_parts points → All (λ ps. length ps ≤ n) (map f old) → All (λ ps. length ps ≤ n) (map f new)
stack-few n f old rest new part points e is put few =
    let before : All (λ ps. length ps ≤ n) (map f rest) × (length (f part) ≤ n) =
    All-pop (λ ps. length ps ≤ n) (map f old) (map f rest) (Some (f part)) (taken f old rest part e) few in
    rw (put ∙ ap (λ ps. map f rest ++ left_parts ps) is) (left-few n (map f rest) (f part) before.0 before.1)

pub stack-left : {V : Type 0} (f : V → List Point) (old rest new : List V) (part : V) (points : List Point) (nodes more all : List (HashNo × NodeView))
    → old ≡ rest ++ part ∷ [] → points ≡ f part → map f new ≡ map f rest ++ left_parts points → more ≡ nodes ++ first_built points
    → nodes ++ left_built (map f old) ≡ all → more ++ left_built (map f new) ≡ all
stack-left f old rest new part points nodes more all e is put done left =
    rw (done ∙ ap (λ ps. nodes ++ first_built ps) is, put ∙ ap (λ ps. map f rest ++ left_parts ps) is)
    (left-more nodes (map f rest) (f part) ∙ sym (ap (λ ps. nodes ++ left_built ps) (taken f old rest part e)) ∙ left)

pub All-inner : (Q : Point → Type 0) (p : Point) (qs : List Point) → All Q qs → All Q (inner_part p qs)
All-inner Q p qs h = All-filter (λ q. nat_le (distance_of q.word p.word) (least_radius p qs)) Q qs h

pub All-outer : (Q : Point → Type 0) (p : Point) (qs : List Point) → All Q qs → All Q (outer_part p qs)
All-outer Q p qs h = All-filter (λ q. nat_lt (least_radius p qs) (distance_of q.word p.word)) Q qs h
