-- Collecting heads into a set, and sending to each of them: one head at a time. Assumes nothing.
use Rattle.std.proofs.Common.{◌≡◌, ℕ, zero, suc, ◌+◌, ◌-◌, ◌≤◌, Bool, true, false, ◌||◌, List, [], ◌∷◌, ◌++◌, map, length, is_err, Ok, Err, Result, sym, refl, ap, ◌∙◌, subst, inl, inr, append-nil, arith}
use Rattle.std.specs.List.{range_with_len, filter, fold}
use Rattle.std.proofs.lemmas.List.{map-append, set_comm}
use Rattle.std.proofs.lemmas.Bool.{cases_Bool, cases_eq, cases_lt}
use Rattle.job.specs.declared.refusal.Refusal.{Refusal}
use Rattle.job.specs.declared.job.Job.{Job}
use Rattle.job.specs.Lists.{those}
use Rattle.job.specs.Plans.{heads}
use Rattle.link.specs.declared.message.Message.{Message}
use Rattle.link.specs.HeadSets.{HeadSet, with_head, no_heads, heads_in}
use Rattle.link.specs.Messages.{is_notice, message, addressed}
use Rattle.link.specs.Posting.{room, loses, Sent, Sends}
use Rattle.link.proofs.Posting.{loses_none, loses_comes, loses_dropped, sent_none, sent_then}
use Rattle.problem.proofs.Naming.{those_passes, those_fails}
use Rattle.head.specs.Sendings.{to_each, heads_of}
use Rattle.head.proofs.HeadSets.{heads_of_collected}

-- the heads that pass a test, put into a set one after the other
with_both : (s : HeadSet) (g h : ℕ) → with_head (with_head s g) h ≡ with_head (with_head s h) g
with_both s zero zero = refl
with_both s zero (suc h) = refl
with_both s (suc g) zero = refl
with_both s (suc g) (suc h) = elim (cases_eq g h) [
  | inl same ↦ rw same refl
  | inr ne ↦ ap (λ (xs : List Bool). record { members = xs }) (set_comm s.members g h true true ne)
]

with_first : (s : HeadSet) (h : ℕ) (hs : List ℕ) → fold with_head (with_head s h) hs ≡ with_head (fold with_head s hs) h
with_first s h [] = refl
with_first s h (g ∷ gs) = ap (λ (t : HeadSet). fold with_head t gs) (with_both s h g) ∙ with_first (with_head s g) h gs

put_together : (hs : List ℕ) → fold with_head no_heads hs ≡ heads_in hs
unfolding heads_in
put_together [] = refl
put_together (h ∷ hs) = with_first no_heads h hs ∙ ap (λ (s : HeadSet). with_head s h) (put_together hs)

filter_those : (p : ℕ → Bool) (hs : List ℕ) → filter p hs ≡ those p hs
unfolding those
filter_those p [] = refl
filter_those p (h ∷ hs) = elim (cases_Bool (p h)) [
  | inl e ↦ rw e (ap (λ t. h ∷ t) (filter_those p hs))
  | inr e ↦ rw e (filter_those p hs)
]

pub collected : (p : ℕ → Bool) (hs : List ℕ) → fold with_head no_heads (filter p hs) ≡ heads_in (those p hs)
collected p hs = ap (fold with_head no_heads) (filter_those p hs) ∙ put_together (those p hs)

counting_push : (a n : ℕ) → range_with_len a (suc n) ≡ range_with_len a n ++ (a + n) ∷ []
counting_push a zero = let e : a + 0 ≡ a = omega arith in rw e
counting_push a (suc n) =
    let e : a + 1 + n ≡ a + suc n = omega arith in
    ap (λ t. a ∷ t) (counting_push (a + 1) n ∙ ap (λ (k : ℕ). range_with_len (a + 1) n ++ k ∷ []) e)

module _ (p : ℕ → Bool) where
  those_append : (xs ys : List ℕ) → those p (xs ++ ys) ≡ those p xs ++ those p ys
  those_append [] ys = unfold those in refl
  those_append (x ∷ xs) ys = elim (cases_Bool (p x)) [
    | inl e ↦ rw (those_passes p x (xs ++ ys) e, those_passes p x xs e) (ap (λ t. x ∷ t) (those_append xs ys))
    | inr e ↦ rw (those_fails p x (xs ++ ys) e, those_fails p x xs e) (those_append xs ys)
  ]

  -- one head more, after those from 1 on
  push : (h : ℕ) → 1 ≤ h → those p (range_with_len 1 (h + 1 - 1)) ≡ those p (range_with_len 1 (h - 1)) ++ those p (h ∷ [])
  push h l =
      let e : h + 1 - 1 ≡ suc (h - 1) = omega arith in
      let f : 1 + (h - 1) ≡ h = omega arith in
      ap (λ (k : ℕ). those p (range_with_len 1 k)) e ∙ ap (those p) (counting_push 1 (h - 1)) ∙ those_append (range_with_len 1 (h - 1)) ((1 + (h - 1)) ∷ []) ∙ ap (λ (k : ℕ). those p (range_with_len 1 (h - 1)) ++ those p (k ∷ [])) f

  none : those p [] ≡ []
  unfolding those
  none = refl

  pub push_passed : (h : ℕ) → 1 ≤ h → p h ≡ false → those p (range_with_len 1 (h + 1 - 1)) ≡ those p (range_with_len 1 (h - 1))
  push_passed h l e = push h l ∙ ap (λ t. those p (range_with_len 1 (h - 1)) ++ t) (those_fails p h [] e ∙ none) ∙ append-nil _

  pub push_taken : (h : ℕ) → 1 ≤ h → p h ≡ true → those p (range_with_len 1 (h + 1 - 1)) ≡ those p (range_with_len 1 (h - 1)) ++ h ∷ []
  push_taken h l e = push h l ∙ ap (λ t. those p (range_with_len 1 (h - 1)) ++ t) (those_passes p h [] e ∙ ap (λ t. h ∷ t) none)

-- sending to the heads below h, and then to h
module _ {S : Type 0} (m : Message S) (p : ℕ → Bool) (limit : ℕ) (bag : List (Message S)) where
  abbrev pub SentBelow : ℕ → Bool → ℕ → List (Message S) → Type 0
  SentBelow h lost limit' bag' = Sent limit bag (to_each m (those p (range_with_len 1 (h - 1)))) lost limit' bag'

  pub sent_below_first : SentBelow 1 false limit bag
  sent_below_first = unfold those in sent_none limit bag

  pub sent_below_passed : (h : ℕ) (lost : Bool) (limit' : ℕ) (bag' : List (Message S)) → 1 ≤ h → p h ≡ false → SentBelow h lost limit' bag' → SentBelow (h + 1) lost limit' bag'
  sent_below_passed h lost limit' bag' l e t = rw (push_passed p h l e) t

  pub sent_below_more : (h : ℕ) (lost lost' : Bool) (limit' limit'' : ℕ) (bag' bag'' : List (Message S)) → 1 ≤ h → p h ≡ true → SentBelow h lost limit' bag' →
      Sent limit' bag' (addressed m h ∷ []) lost' limit'' bag'' → SentBelow (h + 1) (lost || lost') limit'' bag''
  sent_below_more h lost lost' limit' limit'' bag' bag'' l e t u = rw (push_taken p h l e, map-append (addressed m) (those p (range_with_len 1 (h - 1))) (h ∷ [])) (sent_then t u)

  pub sent_below_all : (h n : ℕ) (lost : Bool) (limit' : ℕ) (bag' : List (Message S)) → h - 1 ≡ n → SentBelow h lost limit' bag' → Sent limit bag (to_each m (those p (range_with_len 1 n))) lost limit' bag'
  sent_below_all h n lost limit' bag' e t = subst (λ (k : ℕ). Sent limit bag (to_each m (those p (range_with_len 1 k))) lost limit' bag') e t

-- what one send comes to, whether its message was lost or not
pub sent_one : {S U : Type 0} (limit limit' : ℕ) (bag bag' : List (Message S)) (m : Message S) (r : Result U Refusal) → Sends limit bag m r limit' bag' → Sent limit bag (m ∷ []) (is_err r) limit' bag'
sent_one limit limit' bag bag' m (Ok u) t = t
sent_one limit limit' bag bag' m (Err e) t = t.1

-- notices are dropped, and never lost
pub notices_not_lost : {S : Type 0} (limit w : ℕ) (m : Message S) (hs : List ℕ) → is_notice m.kind ≡ true → loses limit w (to_each m hs) ≡ false
notices_not_lost {S} limit w m [] n = loses_none S limit w
notices_not_lost limit w m (h ∷ hs) n = elim (cases_lt w (room limit (addressed m h))) [
  | inl lt ↦ loses_comes limit w (addressed m h) (to_each m hs) lt ∙ notices_not_lost limit (w + 1) m hs n
  | inr ge ↦ loses_dropped limit w (addressed m h) (to_each m hs) ge n ∙ notices_not_lost limit w m hs n
]

-- a message to each head of a collected set
pub sent_collected : {S : Type 0} (j : Job) (p : ℕ → Bool) (s : HeadSet) (m : Message S) (c : S) (limit limit' : ℕ) (bag bag' : List (Message S)) (lost : Bool) → s ≡ heads_in (those p (heads j)) → m.cost ≡ c →
    Sent limit bag (to_each m (heads_of j s)) lost limit' bag' → Sent limit bag (map (λ g. message m.kind g m.from m.search m.plan c) (those p (heads j))) lost limit' bag'
sent_collected j p s m c limit limit' bag bag' lost is cost t =
    let hs : heads_of j s ≡ those p (heads j) = ap (heads_of j) is ∙ heads_of_collected p j in
    subst (λ (ms : List (Message _)). Sent limit bag ms lost limit' bag') (ap (to_each m) hs ∙ ap (λ (x : _). map (λ g. message m.kind g m.from m.search m.plan x) (those p (heads j))) cost) t

pub sent_unlost : {S : Type 0} (limit limit' : ℕ) (bag bag' ms : List (Message S)) (lost : Bool) → loses limit (length bag) ms ≡ false → Sent limit bag ms lost limit' bag' → Sent limit bag ms false limit' bag'
sent_unlost limit limit' bag bag' ms lost e t = record { limit_stays = t.limit_stays; waits = t.waits; losses = sym e }
