-- Pruning: a complete plan that extends another costs at least that one's cost joined with its bounds, and it extends the one
-- of that one's children that names as it does. Assumes nothing.
use Rattle.std.proofs.Common.{◌≡◌, ℕ, ◌<◌, ◌≤◌, true, List, ◌++◌, sym, ap, ◌∙◌, ap₂, inl, inr, arith}
use Rattle.std.specs.List.{AllByRecursion as All}
use Rattle.std.proofs.ByRecursion.{All-weaker}
use Rattle.std.proofs.lemmas.Bool.{cases_eq, lt-ltb}
use Rattle.scale.specs.Operations.{Operations, Laws, AtMost}
use Rattle.job.specs.declared.job.Job.{Job}
use Rattle.job.specs.declared.plan.Plan.{Plan}
use Rattle.job.specs.Plans.{heads, setups, setup, named, name, named_heads, unnamed_heads, Complete}
use Rattle.problem.specs.Costs.{joined, joined_pairs, between, as_named, against, plan_cost, bound}
use Rattle.problem.specs.Pruning.{PruningIsSafe, ChildrenCover}
use Rattle.problem.proofs.Joins.{joined_like, joined_pairs_like, joined_pairs_same, joined_pairs_grow, joined_at_most, least_at_most, monotone_right}
use Rattle.problem.proofs.Naming.{all_those, those_all, same_parts, all_counting, out_counting, setups_few, setup_name_same, setup_name_other, as_named_symmetric}

pub complete_names_all : (j : Job) (p : Plan) → Complete j p → named_heads j p ≡ heads j
complete_names_all j p c =
    those_all (named p) (heads j) (all_counting _ 1 j.heads (λ h l u. lt-ltb (setup p h) 255 (omega (arith, c.each h l (omega arith), setups_few j h))))

pub pruning_is_safe : {S : Type 0} {s : Operations S} (laws : Laws s) → PruningIsSafe s
pruning_is_safe {S} {s} laws costs j q p extends =
    let qs : List ℕ = named_heads j q in
    let us : List ℕ = unnamed_heads j q in
    let f : ℕ → ℕ → S = as_named s costs p in
    let whole : plan_cost s costs j p ≡ joined_pairs s f (us ++ qs) =
    ap (joined_pairs s f) (complete_names_all j p extends.complete) ∙ joined_pairs_same laws f (as_named_symmetric s costs p) (same_parts (named q) (heads j)) in
    let as_q : All (λ g. setup p g ≡ setup q g) qs =
    all_those _ (named q) (heads j) (all_counting _ 1 j.heads (λ g l u. extends.as_named g l (omega arith))) in
    let pairs : joined_pairs s f qs ≡ plan_cost s costs j q =
    joined_pairs_like s _ f (as_named s costs q) (λ a b e g. ap₂ (λ x y. between s costs a x b y) e g) qs as_q in
    let row : (u : ℕ) → joined s (f u) qs ≡ against s costs j u (setup p u) q =
    λ u. joined_like s _ _ qs (All-weaker _ _ (λ g e. ap (between s costs u (setup p u) g) e) qs as_q) in
    let each : (u : ℕ) → setup p u < setups j u → AtMost s (bound s costs j u q) (joined s (f u) qs) =
    λ u l. rw (row u) (least_at_most laws (λ i. against s costs j u i q) (out_counting 0 (setups j u) (setup p u) (omega arith) (omega arith)).1) in
    let bounds : AtMost s (joined s (λ u. bound s costs j u q) us) (joined s (λ u. joined s (f u) qs) us) =
    joined_at_most laws _ _ us (all_those _ _ (heads j) (all_counting _ 1 j.heads (λ u l k _. each u (extends.complete.each u l (omega arith))))) in
    rw (whole, ← pairs) (laws.transitive _ _ _ (monotone_right laws _ _ (joined_pairs s f qs) bounds) (joined_pairs_grow laws f us qs))

pub children_cover : ChildrenCover
children_cover j q p u len l k free extends = (setup p u, extends.complete.each u l k, record { complete = extends.complete; as_named = as_child })
  where
    as_child : (h : ℕ) → 1 ≤ h → h ≤ j.heads → named (name q u (setup p u)) h ≡ true → setup p h ≡ setup (name q u (setup p u)) h
    as_child h m n e = elim (cases_eq h u) [
      | inl is ↦ rw is (sym (setup_name_same q u (setup p u) len l (omega (arith, j.eight))))
      | inr ne ↦
          let other : setup (name q u (setup p u)) h ≡ setup q h = setup_name_other q u (setup p u) h ne in
          extends.as_named h m n (rw other at e) ∙ sym other
    ]
