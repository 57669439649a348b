-- What deliver does, from what receiving a message, posting the owed report and coming home do. Assumes nothing.
use Rattle.std.proofs.Common.{◌≡◌, ℕ, ◌-◌, ◌<◌, Bool, true, false, cond, not, ◌&&◌, ◌||◌, eqb, ltb, List, [], ◌∷◌, ◌++◌, length, get_or, set, is_err, Ok, Err, Result, sym, refl, ap, ◌∙◌, subst, ap₂, append_assoc, append-nil, arith, length-set}
use Rattle.std.proofs.lemmas.List.{set-get_or, get_or-set_same}
use Rattle.std.proofs.lemmas.Bool.{and_parts, cond-true, cond-false, le-ltb, eqb-true, eq-eqb, both_ways}
use Rattle.scale.specs.Operations.{Operations}
use Rattle.job.specs.declared.job.Job.{Job}
use Rattle.job.specs.declared.refusal.Refusal.{Refusal}
use Rattle.job.specs.declared.refusal.Refusal.TheVariants.{LinkFull}
use Rattle.job.specs.Refusals.{number}
use Rattle.job.specs.Plans.{setups, is_head, named, is_of_job}
use Rattle.problem.specs.Costs.{bound, priced, may_ask_head}
use Rattle.link.specs.declared.message.Kind.{Kind}
use Rattle.link.specs.declared.message.Kind.TheVariants.{Request}
use Rattle.link.specs.declared.message.Message.{Message}
use Rattle.link.specs.Posting.{Sent}
use Rattle.link.proofs.Posting.{sent_then}
use Rattle.head.specs.declared.best.Best.{Best}
use Rattle.head.specs.declared.record.Record.{Record}
use Rattle.head.specs.declared.owed.OwedReport.{OwedReport}
use Rattle.head.specs.declared.receive.Received.{Received}
use Rattle.head.specs.declared.receive.Received.TheVariants.{Owes, Done}
use Rattle.head.specs.Bests.{at_first}
use Rattle.head.specs.Views.{spot, Turn, Turned}
use Rattle.head.specs.Replies.{Reply, reply, report, on_request, asks_picker}
use Rattle.head.specs.Strays.{is_addressed, is_sound, due, expects}
use Rattle.head.specs.Owing.{ReportsWith, Reports}
use Rattle.head.specs.Lent.{Lent, lent, Enough, is_out, best_of}
use Rattle.head.specs.Receiving.{its_record, is_due, replies, needs_pick, Acts, OnlyTaken, owed_for, Receives}
use Rattle.head.proofs.EachHead.{sent_one}
use Rattle.head.proofs.Receipts.{search_small}
use Rattle.run.specs.declared.run.Run.{Run}
use Rattle.run.specs.Worlds.{World, at, come_home, stops}
use Rattle.run.specs.Delivering.{counted, out_after, farewell, Delivered, Delivers, ComesHome}
use Rattle.run.proofs.Homes.{home_at_one}

module _ {S : Type 0} (s : Operations S) where
  -- the parts of a message that fits
  fit_addressed : (out : ℕ) (l : Lent S) (m : Message S) → is_due s out l m ≡ true → is_addressed l.job m ≡ true
  fit_addressed out l m e = (and_parts _ _ e).0

  fit_due : (out : ℕ) (l : Lent S) (m : Message S) → is_due s out l m ≡ true → due l.job m.kind (is_out out m.search) (its_record s l m) m ≡ true
  fit_due out l m e =
      let j = l.job in
      let r = its_record s l m in
      let d = due j m.kind (is_out out m.search) r m in
      let x = expects r.state m.kind in
      let rest = (and_parts (is_addressed j m) (is_sound j m.to r && (d && x)) e).1 in
      (and_parts d x (and_parts (is_sound j m.to r) (d && x) rest).1).0

  pub acts_search : {out : ℕ} {l l' : Lent S} {m : Message S} {more : ℕ → List (Message S)} {home lost : Bool} → Acts s out l m more home lost l' → m.search < 8
  acts_search {out} {l} {m = m} a = search_small l.job m (fit_addressed out l m a.due)

  -- what receiving has come to, by its answer
  abbrev pub HasOwed : ℕ → Lent S → OwedReport → Lent S → Message S → Type 0
  HasOwed out l o l' m = Enough l × (m.kind ≡ Request) × (is_due s out l m ≡ true) × (o ≡ owed_for s m) × OnlyTaken s l m l'

  owing : {out : ℕ} {l l' : Lent S} {place place' : Message S} {o : OwedReport} → Receives s out l place (Ok (Owes o)) l' place' → HasOwed out l o l' place'
  owing (Receives.owes e k d is t) = (e, k, d, is, t)

  pub has_owed : {out : ℕ} {l l' : Lent S} {place place' : Message S} {x : Received} {o : OwedReport} → Receives s out l place (Ok x) l' place' → x ≡ Owes o → HasOwed out l o l' place'
  has_owed {out} {l} {l'} {place} {place'} did e = owing (subst (λ (x : Received). Receives s out l place (Ok x) l' place') e did)

  abbrev pub HasActed : ℕ → Lent S → Kind → Bool → Bool → Lent S → Message S → Type 0
  HasActed out l kind home lost l' m = Enough l × (kind ≡ m.kind) × Acts s out l m (λ _. []) home lost l'

  acting : {out : ℕ} {l l' : Lent S} {place place' : Message S} {kind : Kind} {home lost : Bool} → Receives s out l place (Ok (Done kind home lost)) l' place' → HasActed out l kind home lost l' place'
  acting (Receives.acts e n k a) = (e, k, a)

  pub has_acted : {out : ℕ} {l l' : Lent S} {place place' : Message S} {x : Received} {kind : Kind} {home lost : Bool} → Receives s out l place (Ok x) l' place' → x ≡ Done kind home lost → HasActed out l kind home lost l' place'
  has_acted {out} {l} {l'} {place} {place'} did e = acting (subst (λ (x : Received). Receives s out l place (Ok x) l' place') e did)

  -- the answer, by whether a message was lost
  told_lost : (w w' : World S) (m : Message S) (k : Kind) (b : Bool) → Enough w.lent → k ≡ m.kind → Delivered s w m b w' → Delivers s w (cond b (Err LinkFull) (Ok k)) w'
  told_lost w w' m k true e is did = Delivers.message_lost m refl e did
  told_lost w w' m k false e is did = Delivers.granted m is e did

  pub told_so : (w w' : World S) (m : Message S) (k : Kind) (b : Bool) (answer : Result Kind Refusal) → answer ≡ cond b (Err LinkFull) (Ok k) → Enough w.lent → k ≡ m.kind → Delivered s w m b w' → Delivers s w answer w'
  told_so w w' m k b answer is e same did = subst (λ (x : Result Kind Refusal). Delivers s w x w') (sym is) (told_lost w w' m k b e same did)

  -- a refusal: of a stray message, or with nothing moved
  pub refused_stray : {l l' : Lent S} {place place' : Message S} {e : Refusal} (r r' : Run) → Receives s r.out l place (Err e) l' place' → eqb (number e) 13 ≡ true → r' ≡ record { out = r.out; count = counted r.count } → Delivers s (at l r) (Err e) (at l' r')
  refused_stray {e = e} r r' (Receives.too_little n k same p) is t = absurd (let x = eqb-true (number e) 13 is in omega arith)
  refused_stray {e = e} r r' (Receives.none_waits n k b same p) is t = absurd (let x = eqb-true (number e) 13 is in omega arith)
  refused_stray r r' (Receives.stray {m = m} n k d taken) is t = Delivers.stray n k (record { message = m; not_due = d; taken = taken; run = t })

  pub refused_still : {l l' : Lent S} {place place' : Message S} {e : Refusal} (r : Run) → Receives s r.out l place (Err e) l' place' → eqb (number e) 13 ≡ false → Delivers s (at l r) (Err e) (at l' r)
  refused_still r (Receives.too_little n k same p) is = Delivers.too_little n k (ap (λ (x : Lent S). at x r) same)
  refused_still r (Receives.none_waits n k b same p) is = Delivers.none_waits n k b (ap (λ (x : Lent S). at x r) same)
  refused_still {e = e} r (Receives.stray n k d taken) is = absurd (both_ways (eqb (number e) 13) is (eq-eqb (number e) 13 n))

  -- a request: its report is posted
  module _ (j : Job) (costs : List S) (records records' : List (Record S)) (bests bests' : List (Best S)) (limit limit' : ℕ) (bag bag' : List (Message S)) (r : Run) (m : Message S) (o : OwedReport)
      (did : HasOwed r.out (lent j costs records bests limit bag) o (lent j costs records' bests' limit' bag') m) where
    abbrev l : Lent S
    l = lent j costs records bests limit bag

    abbrev best : Best S
    best = best_of s l m.to

    may_ask : may_ask_head j m.to m.plan ≡ true
    may_ask =
        let other = not (eqb m.to m.from) in
        let search = ltb m.search (setups j 1) in
        let whole = is_of_job j m.plan in
        let p = and_parts (is_head j m.to) (is_head j m.from && (other && (search && whole))) (fit_addressed r.out l m did.2) in
        let q = and_parts (is_head j m.from) (other && (search && whole)) p.1 in
        let to : is_head j m.to ≡ true = p.0 in
        let of_job : is_of_job j m.plan ≡ true = (and_parts search whole (and_parts other (search && whole) q.1).1).1 in
        let free : not (named m.plan m.to) ≡ true = subst (λ (k : Kind). due j k (is_out r.out m.search) (its_record s l m) m ≡ true) did.1 (fit_due r.out l m did.2) in
        ap₂ (λ (a b : Bool). a && (b && not (named m.plan m.to))) of_job to ∙ free

    priced_so : priced costs (may_ask_head j m.to m.plan) (bound s costs j m.to m.plan) ≡ Ok (bound s costs j m.to m.plan)
    priced_so = cond-false (ltb (length costs) 1792) _ _ (le-ltb (length costs) 1792 did.0.costs) ∙ cond-true _ _ _ may_ask

    module _ {U : Type 0} (answer : Result U Refusal) (limit'' : ℕ) (bag'' : List (Message S)) (told : Reports s j costs o limit' bag' answer limit'' bag'') where
      reported : Sent limit' bag' (report s j costs m ∷ []) (is_err answer) limit'' bag''
      reported = sent_one limit' limit'' bag' bag'' (report s j costs m) answer
          (subst (λ (p : Result S Refusal). ReportsWith p (owed_for s m) limit' bag' answer limit'' bag'') priced_so (subst (λ (x : OwedReport). Reports s j costs x limit' bag' answer limit'' bag'') did.3 told))

      replied : replies s l m 0 ≡ on_request s j costs m best
      replied = ap (λ (k : Kind). reply s j costs 0 (its_record s l m) m best k) did.1

      no_pick : needs_pick s l m ≡ false
      no_pick = ap (λ (k : Kind). asks_picker s j costs (its_record s l m) m best k) did.1

      pub request_delivered : (r' : Run) → r' ≡ record { out = r.out; count = counted r.count } → Delivered s (at l r) m (is_err answer) (at (lent j costs records' bests' limit'' bag'') r')
      request_delivered r' is = record {
        home = false;
        acts = record {
          rest = bag';
          picked = 0;
          taken = did.4.taken;
          due = did.2;
          picks = λ e. absurd (both_ways (needs_pick s l m) no_pick e);
          job = refl;
          costs = refl;
          records = subst (λ (t : Turn S). Turned records (spot m.to m.search) t records') (ap (λ (x : Reply S). x.turn) (sym replied)) did.4.records;
          bests = did.4.bests ∙ sym (set-get_or bests (m.to - 1) (at_first s)) ∙ ap (λ (x : Reply S). set bests (m.to - 1) x.best) (sym replied);
          came_home = ap (λ (x : Reply S). x.home) (sym replied);
          sent = subst (λ (n : ℕ). Sent n bag' ((replies s l m 0).notices ++ ((replies s l m 0).posts ++ farewell s (at l r) m 0)) (is_err answer) limit'' bag'') did.4.limit
              (subst (λ (x : Reply S). Sent limit' bag' (x.notices ++ (x.posts ++ cond (x.home && eqb (cond x.home (come_home r.out m.search) r.out) 0) (stops j x.best) [])) (is_err answer) limit'' bag'') (sym replied) reported);
        };
        run = is ∙ ap (λ (x : Reply S). record { out = cond x.home (come_home r.out m.search) r.out; count = counted r.count }) (sym replied);
      }

  -- any other message: its head has acted
  module _ (j : Job) (costs : List S) (records records' : List (Record S)) (bests bests' : List (Best S)) (limit limit' : ℕ) (bag bag' : List (Message S)) (r : Run) (m : Message S) (kind : Kind) (home lost : Bool)
      (did : HasActed r.out (lent j costs records bests limit bag) kind home lost (lent j costs records' bests' limit' bag') m) where
    abbrev l' : Lent S
    l' = lent j costs records bests limit bag

    abbrev a : Acts s r.out l' m (λ _. []) home lost (lent j costs records' bests' limit' bag')
    a = did.2

    abbrev answer : Reply S
    answer = replies s l' m a.picked

    pub bests_stay : length bests' ≡ length bests
    bests_stay = ap length a.bests ∙ length-set bests (m.to - 1) answer.best

    -- what is sent after its act, and what then waits
    module _ (r' : Run) (limit'' : ℕ) (bag'' : List (Message S)) (lost' : Bool) (last : List (Message S)) (same : farewell s (at l' r) m a.picked ≡ last)
        (out_is : r' ≡ record { out = out_after s (at l' r) m a.picked; count = counted r.count }) (more : Sent limit' bag' last lost' limit'' bag'') where
      acted : Delivered s (at l' r) m (lost || lost') (at (lent j costs records' bests' limit'' bag'') r')
      acted = record {
        home = home;
        acts = record {
          rest = a.rest;
          picked = a.picked;
          taken = a.taken;
          due = a.due;
          picks = a.picks;
          job = refl;
          costs = refl;
          records = a.records;
          bests = a.bests;
          came_home = a.came_home;
          sent = subst (λ (ms : List (Message S)). Sent limit a.rest ms (lost || lost') limit'' bag'')
              (append_assoc answer.notices (answer.posts ++ []) last ∙ ap₂ (λ (ps ls : List (Message S)). answer.notices ++ (ps ++ ls)) (append-nil answer.posts) (sym same))
              (sent_then a.sent more);
        };
        run = out_is;
      }

    pub came_home : home ≡ true → (b d : Best S) → b ≡ get_or bests' 0 d → (r₁ r' : Run) → r₁ ≡ record { out = r.out; count = counted r.count } → (limit'' : ℕ) (bag'' : List (Message S)) (lost' : Bool) →
        ComesHome r₁ m.search j b limit' bag' lost' r' limit'' bag'' → Delivered s (at l' r) m (lost || lost') (at (lent j costs records' bests' limit'' bag'') r')
    came_home h b d e r₁ r' is limit'' bag'' lost' c =
        let back : answer.home ≡ true = sym a.came_home ∙ h in
        let one : m.to ≡ 1 = home_at_one s j costs a.picked (its_record s l' m) m (best_of s l' m.to) m.kind back in
        let first : m.to - 1 ≡ 0 = omega arith in
        let mine : b ≡ answer.best =
        e ∙ ap (λ (xs : List (Best S)). get_or xs 0 d) a.bests ∙ ap (λ (i : ℕ). get_or (set bests i answer.best) 0 d) first ∙ get_or-set_same bests 0 answer.best d (omega (arith, did.0.bests)) in
        let out_so : r₁.out ≡ r.out = ap (λ (x : Run). x.out) is in
        acted r' limit'' bag'' lost' (cond (eqb (come_home r₁.out m.search) 0) (stops j b) [])
        (ap (λ (x : Bool). cond (x && eqb (cond x (come_home r.out m.search) r.out) 0) (stops j answer.best) []) back ∙ ap₂ (λ (o : ℕ) (x : Best S). cond (eqb (come_home o m.search) 0) (stops j x) []) (sym out_so) (sym mine))
        (c.run ∙ ap (λ (x : Run). record { out = come_home x.out m.search; count = x.count }) is ∙ ap (λ (x : Bool). record { out = cond x (come_home r.out m.search) r.out; count = counted r.count }) (sym back))
        c.sent

    pub stayed_out : home ≡ false → (r' : Run) → r' ≡ record { out = r.out; count = counted r.count } → Delivered s (at l' r) m (lost || false) (at (lent j costs records' bests' limit' bag') r')
    stayed_out h r' is =
        let away : answer.home ≡ false = sym a.came_home ∙ h in
        acted r' limit' bag' false []
        (ap (λ (x : Bool). cond (x && eqb (cond x (come_home r.out m.search) r.out) 0) (stops j answer.best) []) away)
        (is ∙ ap (λ (x : Bool). record { out = cond x (come_home r.out m.search) r.out; count = counted r.count }) (sym away))
        (Rattle.link.proofs.Posting.sent_none limit' bag')
