-- A message taken out of the link, and what its head then makes of it, come to what receiving promises. Assumes nothing.
use Rattle.std.proofs.Common.{◌≡◌, ℕ, Bool, true, false, ◌&&◌, leb, List, [], ◌∷◌, ◌++◌, length, Ok, Err, Result, sym, refl, ap, ◌∙◌, subst, ap₂, inl, inr, append-nil}
use Rattle.std.proofs.lemmas.Bool.{cases_Bool, and_parts, leb-true, leb-false}
use Rattle.scale.specs.Operations.{Operations}
use Rattle.job.specs.declared.job.Job.{Job}
use Rattle.job.specs.declared.refusal.Refusal.{Refusal}
use Rattle.job.specs.declared.refusal.Refusal.TheVariants.{Stray}
use Rattle.link.specs.declared.message.Message.{Message}
use Rattle.problem.specs.Bags.{Same}
use Rattle.link.specs.Links.{Taken}
use Rattle.link.specs.Posting.{Sent}
use Rattle.head.specs.declared.best.Best.{Best}
use Rattle.head.specs.declared.record.Record.{Record}
use Rattle.head.specs.declared.receive.Received.{Received}
use Rattle.head.specs.Strays.{is_addressed, is_sound, due, expects}
use Rattle.head.specs.Lent.{Lent, lent, Enough, Lacks, are_enough, is_out}
use Rattle.head.specs.Receiving.{its_record, replies, Heeds, Receives}

module _ {S : Type 0} (j : Job) (costs : List S) (records : List (Record S)) (bests : List (Best S)) (limit : ℕ) (bag : List (Message S)) where
  pub enough_so : are_enough records bests costs ≡ true → Enough (lent j costs records bests limit bag)
  enough_so e =
      let p = and_parts (leb 64 (length records)) _ e in
      let q = and_parts (leb 8 (length bests)) _ p.1 in
      record { records = leb-true _ _ p.0; bests = leb-true _ _ q.0; costs = leb-true _ _ q.1 }

  pub lacks_so : are_enough records bests costs ≡ false → Lacks (lent j costs records bests limit bag)
  lacks_so e = elim (cases_Bool (leb 64 (length records))) [
    | inr n ↦ inl (leb-false _ _ n)
    | inl y ↦ elim (cases_Bool (leb 8 (length bests))) [
      | inr n ↦ inr (inl (leb-false _ _ n))
      | inl z ↦ inr (inr (leb-false 1792 (length costs) (sym (ap₂ (λ (a b : Bool). a && (b && leb 1792 (length costs))) y z) ∙ e)))
    ]
  ]

-- a message that is not from one head of the job to another is stray
pub stray_address : {S : Type 0} (s : Operations S) (out : ℕ) (l : Lent S) (m : Message S) → is_addressed l.job m ≡ false → Heeds s out l m (Err Stray) l
stray_address s out l m e =
    Heeds.strays refl (ap (λ (b : Bool). b && (is_sound l.job m.to (its_record s l m) && (due l.job m.kind (is_out out m.search) (its_record s l m) m && expects (its_record s l m).state m.kind))) e) refl

module _ {S : Type 0} (s : Operations S) (out : ℕ) (j : Job) (costs : List S) (records : List (Record S)) (bests : List (Best S)) (limit : ℕ) (bag : List (Message S)) (place : Message S)
    (enough : are_enough records bests costs ≡ true) where
  pub none_taken : (e : Refusal) (limit' : ℕ) (bag' : List (Message S)) (place' : Message S) → Taken {U = Unit {0}} limit bag place (Err e) limit' bag' place' →
      Receives s out (lent j costs records bests limit bag) place (Err e) (lent j costs records bests limit' bag') place'
  none_taken e limit' bag' place' t =
      Receives.none_waits t.0 (enough_so j costs records bests limit bag enough) t.1 (ap₂ (λ (x : ℕ) (y : List (Message S)). lent j costs records bests x y) t.2 (t.3 ∙ sym t.1)) t.4

  one_heeded : (u : Unit {0}) (limit' : ℕ) (bag' : List (Message S)) (m : Message S) (r : Result Received Refusal) (l'' : Lent S) → limit' ≡ limit → Same (m ∷ bag') bag →
      Heeds s out (lent j costs records bests limit' bag') m r l'' → Receives s out (lent j costs records bests limit bag) place r l'' m
  one_heeded u limit' bag' m r l'' ll t (Heeds.strays n d same) =
      Receives.stray n (enough_so j costs records bests limit bag enough) d
      (record {
        taken = subst (λ (x : Lent S). Same (m ∷ x.bag) bag) (sym same) t;
        job = ap (λ (x : Lent S). x.job) same;
        costs = ap (λ (x : Lent S). x.costs) same;
        records = ap (λ (x : Lent S). x.records) same;
        bests = ap (λ (x : Lent S). x.bests) same;
        limit = ap (λ (x : Lent S). x.limit) same ∙ ll;
      })
  one_heeded u limit' bag' m r l'' ll t (Heeds.leaves_owed k d o same) =
      Receives.owes (enough_so j costs records bests limit bag enough) k d o
      (record {
        taken = subst (λ (x : Lent S). Same (m ∷ x.bag) bag) (sym same) t;
        job = ap (λ (x : Lent S). x.job) same;
        costs = ap (λ (x : Lent S). x.costs) same;
        records = ap (λ (x : Lent S). x.records) same;
        bests = ap (λ (x : Lent S). x.bests) same;
        limit = ap (λ (x : Lent S). x.limit) same ∙ ll;
      })
  one_heeded u limit' bag' m r l'' ll t (Heeds.has_acted {lost = lost} picked k d is picks ej ec er eb eh sent) =
      Receives.acts (enough_so j costs records bests limit bag enough) k is
      (record {
        rest = bag';
        picked = picked;
        taken = t;
        due = d;
        picks = picks;
        job = ej;
        costs = ec;
        records = er;
        bests = eb;
        came_home = eh;
        sent = subst (λ (n : ℕ). Sent n bag' ((replies s (lent j costs records bests limit bag) m picked).notices ++ ((replies s (lent j costs records bests limit bag) m picked).posts ++ [])) lost l''.limit l''.bag) ll
            (subst (λ (ps : List (Message S)). Sent limit' bag' ((replies s (lent j costs records bests limit bag) m picked).notices ++ ps) lost l''.limit l''.bag) (sym (append-nil (replies s (lent j costs records bests limit bag) m picked).posts)) sent);
      })

  pub one_taken : (u : Unit {0}) (limit' : ℕ) (bag' : List (Message S)) (m : Message S) (r : Result Received Refusal) (l'' : Lent S) → Taken {U = Unit {0}} limit bag place (Ok u) limit' bag' m →
      Heeds s out (lent j costs records bests limit' bag') m r l'' → Receives s out (lent j costs records bests limit bag) place r l'' m
  one_taken u limit' bag' m r l'' t h = one_heeded u limit' bag' m r l'' t.0 t.1 h
