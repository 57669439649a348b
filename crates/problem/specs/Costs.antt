-- What plans cost: a table of costs for each pair of heads, and joins over it. Assumes nothing.
use Rattle.std.specs.Prelude.{◌≡◌, ℕ, ◌+◌, ◌-◌, ◌*◌, ◌/◌, ◌<◌, ◌≤◌, Bool, true, cond, not, ◌&&◌, List, [], ◌∷◌, length, Some, None, Ok, Err, Option, Result, ◌≢◌, nat_le, nat_lt, slice_index_or}
use Rattle.std.specs.List.{range_with_len}
use Rattle.scale.specs.Operations.{Operations}
use Rattle.job.specs.declared.refusal.Refusal.{Refusal}
use Rattle.job.specs.declared.refusal.Refusal.TheVariants.{BadNumber, TooLittle}
use Rattle.job.specs.declared.job.Job.{Job}
use Rattle.job.specs.declared.plan.Plan.{Plan}
use Rattle.job.specs.Lists.{those}
use Rattle.job.specs.Plans.{setups, setup, named, named_heads, is_head, is_setup, is_of_job}

-- the number of the pair of the heads a < b, from 0 to 27, in the order (1,2), (1,3) to (7,8)
abbrev pub pair : ℕ → ℕ → ℕ
pair a b = (a - 1) * (16 - a) / 2 + (b - a - 1)

abbrev pub is_pair : ℕ → ℕ → Bool
is_pair a b = nat_le 1 a && (nat_lt a b && nat_le b 8)

abbrev pub pair_of : ℕ → ℕ → Option ℕ
pair_of a b = cond (is_pair a b) (Some (pair a b)) None

-- where the cost of setup i of head a with setup j of head b lies, a < b
abbrev pub place : ℕ → ℕ → ℕ → ℕ → ℕ
place a i b j = 64 * pair a b + 8 * i + j

abbrev pub place_of : ℕ → ℕ → ℕ → ℕ → Option ℕ
place_of a i b j = cond (is_pair a b && (nat_lt i 8 && nat_lt j 8)) (Some (place a i b j)) None

module _ {S : Type 0} (s : Operations S) where
  -- the join of f over a list; nothing over the empty one
  unfoldable pub joined : {X : Type 0} → (X → S) → List X → S
  joined f [] = s.nothing
  joined f (x ∷ xs) = s.join (f x) (joined f xs)

  -- the join of f over all pairs of a list, each once
  unfoldable pub joined_pairs : {X : Type 0} → (X → X → S) → List X → S
  joined_pairs f [] = s.nothing
  joined_pairs f (x ∷ xs) = s.join (joined (f x) xs) (joined_pairs f xs)

  -- the lesser of two costs, and the least of f over a list, never being the greatest cost
  abbrev pub lesser : S → S → S
  lesser x y = cond (s.leq x y) x y

  unfoldable pub least : (ℕ → S) → List ℕ → S
  least f [] = s.never
  least f (x ∷ xs) = lesser (f x) (least f xs)

  module _ (costs : List S) where
    -- what setup i of head h and setup k of head g cost each other, whichever number is lower
    abbrev pub between : ℕ → ℕ → ℕ → ℕ → S
    between h i g k = slice_index_or costs (cond (nat_lt h g) (place h i g k) (place g k h i)) s.nothing

    -- what the heads a and b cost each other as q has them
    abbrev pub as_named : Plan → ℕ → ℕ → S
    as_named q a b = between a (setup q a) b (setup q b)

    -- setup i of head h against those of the heads hs that q names
    abbrev pub against_those : List ℕ → ℕ → ℕ → Plan → S
    against_those hs h i q = joined (λ g. between h i g (setup q g)) (those (named q) hs)

    module _ (j : Job) where
      -- setup i of head h against each head that q names
      abbrev pub against : ℕ → ℕ → Plan → S
      against h i q = joined (λ g. between h i g (setup q g)) (named_heads j q)

      -- the join of the costs of all pairs that q names
      abbrev pub plan_cost : Plan → S
      plan_cost q = joined_pairs (as_named q) (named_heads j q)

      -- the least, over the setups of head u, of the joined costs against the heads that q names
      abbrev pub bound : ℕ → Plan → S
      bound u q = least (λ i. against u i q) (range_with_len 0 (setups j u))

-- What the code asks before it reads costs of one head h with setup i against the heads from a up to z: the plan names only setups
-- below 8, and h is none of those that it names there.
pub record Comparable (q : Plan) (h i a z : ℕ) : Type 0 where
  pub few : (g : ℕ) → named q g ≡ true → setup q g < 8
  pub head_from : 1 ≤ h
  pub head_to : h ≤ 8
  pub setup_fits : i < 8
  pub from : 1 ≤ a
  pub to : z ≤ 8
  pub apart : (g : ℕ) → a ≤ g → g ≤ z → named q g ≡ true → h ≢ g

-- a question about a plan's costs, answered where there are 1,792 costs and the question makes sense
abbrev pub priced : {S : Type 0} → List S → Bool → S → Result S Refusal
priced costs sensible x = cond (nat_lt (length costs) 1792) (Err TooLittle) (cond sensible (Ok x) (Err BadNumber))

-- the plan is one of the job; it does not name the head, and the head and its setup are the job's; it names both heads of a pair
abbrev pub may_ask_setup : Job → ℕ → ℕ → Plan → Bool
may_ask_setup j h i q = is_of_job j q && (is_setup j h i && not (named q h))

abbrev pub may_ask_head : Job → ℕ → Plan → Bool
may_ask_head j h q = is_of_job j q && (is_head j h && not (named q h))

abbrev pub may_ask_pair : Job → ℕ → ℕ → Plan → Bool
may_ask_pair j a b q = is_of_job j q && (nat_lt a b && (named q a && named q b))
