use Rattle.std.proofs.Common.{◌≡◌, ◌∙◌, ◌==◌, ◌<◌, ℕ, List, min, length, ap, arith}
use Rattle.std.specs.List.{list_any}
use Rattle.sibling_chains.specs.Clustered.{is_of_two, label_of}
use Rattle.sibling_chains.proofs.Gathered.{gathered-rows, gathered-tags, rows-counted}
use Rattle.sibling_chains.proofs.Joining.{tags-any}
use Rattle.sibling_chains.proofs.clusters.Clusters.cluster_of.Goals as goal

pub returns-in_err-rows-clause-steps : goal.returns-in_err-rows-clause-steps
returns-in_err-rows-clause-steps g c =
    let s = c.self.inside in
    let a : c.label-a.result ≡ label_of s.pairs.rows s.ties.rows c.args.a = rw (← c.self.view_is) at c.label-a.ensures in
    let b : c.label-b.result ≡ label_of s.pairs.rows s.ties.rows c.args.b = rw (← c.self.view_is) at c.label-b.ensures in
    let tags = ap (λ (l : List ℕ). length l) (gathered-tags s.pairs.rows s.ties.rows s.tags.labels s.rows.labels c.self.invariant c.args.a c.args.b _ _ a b) in
    let rows = ap (λ (l : List ℕ). length l) (gathered-rows s.pairs.rows s.ties.rows s.tags.labels s.rows.labels c.self.invariant c.args.a c.args.b _ _ a b) in
    let count = rows-counted (is_of_two s.pairs.rows s.ties.rows c.args.a c.args.b) s.pairs.rows in
    rw (← c.self.view_is) (omega (arith, tags, rows, count, c.members.ensures.steps, c.members-2.ensures.steps))

pub returns-clause-steps : goal.returns-clause-steps
returns-clause-steps g c =
    let s = c.self.inside in
    let a : c.label-a.result ≡ label_of s.pairs.rows s.ties.rows c.args.a = rw (← c.self.view_is) at c.label-a.ensures in
    let b : c.label-b.result ≡ label_of s.pairs.rows s.ties.rows c.args.b = rw (← c.self.view_is) at c.label-b.ensures in
    let tags = ap (λ (l : List ℕ). length l) (gathered-tags s.pairs.rows s.ties.rows s.tags.labels s.rows.labels c.self.invariant c.args.a c.args.b _ _ a b) in
    let rows = ap (λ (l : List ℕ). length l) (gathered-rows s.pairs.rows s.ties.rows s.tags.labels s.rows.labels c.self.invariant c.args.a c.args.b _ _ a b) in
    let count = rows-counted (is_of_two s.pairs.rows s.ties.rows c.args.a c.args.b) s.pairs.rows in
    rw (← c.self.view_is) (omega (arith, tags, rows, count, c.members.ensures.steps, c.members-2.ensures.steps))

pub returns-clause-cluster : goal.returns-clause-cluster
returns-clause-cluster g c =
    let s = c.self.inside in
    let a : c.label-a.result ≡ label_of s.pairs.rows s.ties.rows c.args.a = rw (← c.self.view_is) at c.label-a.ensures in
    let b : c.label-b.result ≡ label_of s.pairs.rows s.ties.rows c.args.b = rw (← c.self.view_is) at c.label-b.ensures in
    let known-a : c.args.a < length s.tags.labels = rw (← c.self.view_is) at c.requires.a_known in
    let known-b : c.args.b < length s.tags.labels = rw (← c.self.view_is) at c.requires.b_known in
    rw (← c.self.view_is) (record {
      label = c.lesser_label.ensures ∙ ap (λ x. min x c.label-b.result) a ∙ ap (min (label_of s.pairs.rows s.ties.rows c.args.a)) b;
      tags = c.in_ok-tags.ensures.members ∙ gathered-tags s.pairs.rows s.ties.rows s.tags.labels s.rows.labels c.self.invariant c.args.a c.args.b _ _ a b;
      rows = c.in_ok-rows.ensures.members ∙ gathered-rows s.pairs.rows s.ties.rows s.tags.labels s.rows.labels c.self.invariant c.args.a c.args.b _ _ a b;
      whole = λ t.
          ap (list_any (λ x. x == t)) (c.in_ok-tags.ensures.members ∙ gathered-tags s.pairs.rows s.ties.rows s.tags.labels s.rows.labels c.self.invariant c.args.a c.args.b _ _ a b)
          ∙ tags-any s.pairs.rows s.ties.rows s.tags.labels s.rows.labels c.self.invariant c.args.a c.args.b known-a known-b t;
    })
