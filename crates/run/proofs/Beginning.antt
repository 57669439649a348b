-- Beginning the searches, one at a time: those begun so far and those that are left come to the whole. Assumes nothing.
use Rattle.std.proofs.Common.{◌≡◌, ℕ, suc, ◌+◌, ◌-◌, ◌<◌, ◌≤◌, Bool, true, false, cond, ◌||◌, eqb, ltb, List, [], ◌∷◌, ◌++◌, length, get_or, set, replicate, sym, refl, ap, ◌∙◌, subst, ap₂, inl, inr, append_assoc, append-nil, arith, length-set}
use Rattle.std.specs.List.{range_with_len}
use Rattle.std.proofs.lemmas.List.FromFn.{length-range_with_len}
use Rattle.std.proofs.lemmas.List.{get_or-replicate, get_or-set_same, get_or-set_other, get_or_append_left, get_or_push, get_or_past, length_push}
use Rattle.std.proofs.lemmas.Bool.{cases_Bool, cases_eq, cases_lt, cond-true, cond-false, le-leb, lt-ltb, both_ways}
use Rattle.scale.specs.Operations.{Operations}
use Rattle.job.specs.declared.job.Job.{Job}
use Rattle.job.specs.Lists.{every}
use Rattle.job.specs.Plans.{setups, empty, is_of_job}
use Rattle.problem.proofs.Walks.{counting_step, counting_end}
use Rattle.link.specs.declared.message.Message.{Message}
use Rattle.link.specs.Posting.{Sent}
use Rattle.link.proofs.Posting.{sent_none, sent_then}
use Rattle.head.specs.declared.best.Best.{Best}
use Rattle.head.specs.declared.record.Record.{Record}
use Rattle.head.specs.declared.search.Turn.{Turn}
use Rattle.head.specs.SetupSets.{has_setup, only_setup}
use Rattle.head.specs.Views.{View, rests, view}
use Rattle.head.specs.Searching.{Searched, search_on}
use Rattle.head.specs.Replies.{task}
use Rattle.head.specs.Readiness.{Ready, Searches}
use Rattle.head.specs.Lent.{blank}
use Rattle.run.specs.Worlds.{all_out, come_home, stops}
use Rattle.run.specs.Starting.{Begun, root, begin}
use Rattle.run.specs.Beginning.{sent_out, begun_with, HasBegun}

-- head 1 can search on from the empty plan with one of its setups
only_own : (v i : ℕ) → v < 8 → has_setup (only_setup v) i ≡ true → i ≡ v
only_own v i lt e = elim (cases_eq i v) [
  | inl same ↦ same
  | inr ne ↦ absurd (both_ways (has_setup (only_setup v) i) (ap (λ (b : Bool). cond (ltb i 8) b false) (get_or-set_other (replicate 8 false) v i true false ne ∙ none i) ∙ none_either i) e)
]
  where
    none : (k : ℕ) → get_or (replicate 8 false) k false ≡ false
    none k = elim (cases_lt k 8) [ inl below ↦ get_or-replicate 8 k false false below | inr past ↦ get_or_past (replicate 8 false) k false past ]

    none_either : (k : ℕ) → cond (ltb k 8) false false ≡ false
    none_either k = elim (cases_Bool (ltb k 8)) [ inl y ↦ cond-true _ _ _ y | inr n ↦ cond-false _ _ _ n ]

empty_of_job : (j : Job) → is_of_job j empty ≡ true
unfolding every
empty_of_job j = refl

pub ready : (j : Job) (v : ℕ) → v < setups j 1 → Ready j 1 empty (only_setup v)
ready j v lt = record {
  head = le-leb 1 (setups j 1) (omega arith);
  of_job = empty_of_job j;
  free = refl;
  own = λ i e. let same = only_own v i (omega (arith, j.few 0)) e in lt-ltb i (setups j 1) (omega arith);
}

module _ {S : Type 0} (s : Operations S) (j : Job) (costs : List S) where
  -- what was begun already, before the rest
  abbrev after : List (View S) → List (Message S) → Begun s → Begun s
  after vs ms b = record { views = vs ++ b.views; best = b.best; sends = ms ++ b.sends; out = b.out }

  after_after : (vs ws : List (View S)) (ms ns : List (Message S)) (b : Begun s) → after vs ms (after ws ns b) ≡ after (vs ++ ws) (ms ++ ns) b
  after_after vs ws ms ns b = ap₂ (λ (us : List (View S)) (ls : List (Message S)). record { views = us; best = b.best; sends = ls; out = b.out }) (sym (append_assoc vs ws b.views)) (sym (append_assoc ms ns b.sends))

  abbrev search : ℕ → Best S → Searched S
  search v b = search_on s j costs 1 v (root s) (only_setup v) b

  abbrev out_then : ℕ → ℕ → Best S → ℕ
  out_then v out b = cond (search v b).home (come_home out v) out

  begin_one : (v : ℕ) (vs : List ℕ) (b : Best S) (out : ℕ) → begin s j costs (v ∷ vs) b out ≡ after ((search v b).view ∷ []) ((search v b).notices ++ (search v b).posts) (begin s j costs vs (search v b).best (out_then v out b))
  unfolding begin
  begin_one v vs b out = refl

  begin_none : (b : Best S) (out : ℕ) → begin s j costs [] b out ≡ record { views = []; best = b; sends = cond (eqb out 0) (stops j b) []; out = out }
  unfolding begin
  begin_none b out = refl

  module _ (b₀ : Best S) (limit₀ : ℕ) (bag₀ : List (Message S)) where
    abbrev d : ℕ
    d = setups j 1

    pub record SoFar (v out : ℕ) (row : List (Record S)) (b : Best S) (limit : ℕ) (bag : List (Message S)) : Type 0 where
      pub seen : List (View S)
      pub sends : List (Message S)
      pub lost : Bool
      pub as_many : length seen ≡ v
      pub long : length row ≡ 8
      pub sent : Sent limit₀ bag₀ sends lost limit bag
      pub goes_on : begun_with s j costs b₀ ≡ after seen sends (begin s j costs (range_with_len v (d - v)) b out)
      pub views : (k : ℕ) → k < 8 → view (get_or row k (blank s)) ≡ get_or seen k rests

    pub so_far_none : (out : ℕ) (row : List (Record S)) → out ≡ all_out d → length row ≡ 8 → ((k : ℕ) → k < 8 → view (get_or row k (blank s)) ≡ rests) → SoFar 0 out row b₀ limit₀ bag₀
    so_far_none out row e long at_rest = record {
      seen = [];
      sends = [];
      lost = false;
      as_many = refl;
      long = long;
      sent = sent_none limit₀ bag₀;
      goes_on = let f : d - 0 ≡ d = omega arith in ap₂ (λ (n o : ℕ). begin s j costs (range_with_len 0 n) b₀ o) (sym f) (sym e);
      views = at_rest;
    }

    module _ (v out : ℕ) (row : List (Record S)) (b : Best S) (limit : ℕ) (bag : List (Message S)) (lt : v < d) (so : SoFar v out row b limit bag)
        (known : Record S) (is : known ≡ sent_out s v) (t : Turn S) (b' : Best S) (limit' : ℕ) (bag' : List (Message S))
        (did : Searches (search_on s j costs 1 v (task known) known.untried b) limit bag t b' limit' bag') where
      searched : Searches (search v b) limit bag t b' limit' bag'
      searched = subst (λ (r : Record S). Searches (search_on s j costs 1 v (task r) r.untried b) limit bag t b' limit' bag') is did

      views_more : (k : ℕ) → k < 8 → view (get_or (set row v t.known) k (blank s)) ≡ get_or (so.seen ++ (search v b).view ∷ []) k rests
      views_more k h = elim (cases_eq k v) [
        | inl same ↦
            rw same (ap view (get_or-set_same row v t.known (blank s) (omega (arith, so.long))) ∙ searched.looks ∙ sym (get_or_push so.seen (search v b).view rests v so.as_many))
        | inr ne ↦ ap view (get_or-set_other row v k t.known (blank s) ne) ∙ so.views k h ∙ elim (cases_lt k v) [
          | inl below ↦ sym (get_or_append_left so.seen ((search v b).view ∷ []) rests k (omega (arith, so.as_many)))
          | inr above ↦ get_or_past so.seen k rests (omega (arith, so.as_many)) ∙ sym (get_or_past (so.seen ++ (search v b).view ∷ []) k rests (omega (arith, length_push so.seen (search v b).view, so.as_many)))
        ]
      ]

      pub so_far_more : (out' : ℕ) → out' ≡ cond t.home (come_home out v) out → SoFar (v + 1) out' (set row v t.known) b' limit' bag'
      so_far_more out' e = record {
        seen = so.seen ++ (search v b).view ∷ [];
        sends = so.sends ++ ((search v b).notices ++ (search v b).posts);
        lost = so.lost || t.lost;
        as_many = length_push so.seen (search v b).view ∙ ap (λ (n : ℕ). n + 1) so.as_many;
        long = length-set row v t.known ∙ so.long;
        sent = sent_then so.sent searched.sent;
        goes_on = so.goes_on
            ∙ ap (λ (vs : List ℕ). after so.seen so.sends (begin s j costs vs b out)) (counting_step v d lt)
            ∙ ap (after so.seen so.sends) (begin_one v (range_with_len (v + 1) (d - (v + 1))) b out)
            ∙ after_after so.seen ((search v b).view ∷ []) so.sends ((search v b).notices ++ (search v b).posts) _
            ∙ ap₂ (λ (x : Best S) (o : ℕ). after (so.seen ++ (search v b).view ∷ []) (so.sends ++ ((search v b).notices ++ (search v b).posts)) (begin s j costs (range_with_len (v + 1) (d - (v + 1))) x o)) (sym searched.best) (ap (λ (h : Bool). cond h (come_home out v) out) (sym searched.home) ∙ sym e);
        views = views_more;
      }

    pub has_begun : (v out : ℕ) (row : List (Record S)) (b : Best S) (limit : ℕ) (bag : List (Message S)) (lost : Bool) (limit' : ℕ) (bag' : List (Message S)) → d ≤ v → SoFar v out row b limit bag →
        Sent limit bag (cond (eqb out 0) (stops j b) []) lost limit' bag' → HasBegun s j costs b₀ limit₀ bag₀ out row b limit' bag'
    has_begun v out row b limit bag lost limit' bag' ge so last =
        let whole : begun_with s j costs b₀ ≡ after so.seen so.sends (record { views = []; best = b; sends = cond (eqb out 0) (stops j b) []; out = out }) =
        so.goes_on ∙ ap (λ (vs : List ℕ). after so.seen so.sends (begin s j costs vs b out)) (counting_end v d ge) ∙ ap (after so.seen so.sends) (begin_none b out) in
        record {
          views = λ k h. so.views k h ∙ ap (λ (vs : List (View S)). get_or vs k rests) (sym (append-nil so.seen)) ∙ ap (λ (x : Begun s). get_or x.views k rests) (sym whole);
          best_is = ap (λ (x : Begun s). x.best) (sym whole);
          out_are = ap (λ (x : Begun s). x.out) (sym whole);
          lost = so.lost || lost;
          sent = subst (λ (x : Begun s). Sent limit₀ bag₀ x.sends (so.lost || lost) limit' bag') (sym whole) (sent_then so.sent last);
        }

  -- as many views as searches
  views_length : (vs : List ℕ) (b : Best S) (out : ℕ) → length (begin s j costs vs b out).views ≡ length vs
  unfolding begin
  views_length [] b out = refl
  views_length (v ∷ vs) b out = ap suc (views_length vs _ _)

  pub views_few : (b : Best S) (k : ℕ) → 8 ≤ k → get_or (begun_with s j costs b).views k rests ≡ rests
  views_few b k h = get_or_past _ k rests (omega (arith, views_length (range_with_len 0 (setups j 1)) b (all_out (setups j 1)), length-range_with_len 0 (setups j 1), j.few 0))
