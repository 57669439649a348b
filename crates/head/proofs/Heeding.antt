-- A head that acts on its row acts on all that is lent. Assumes nothing.
use Rattle.std.proofs.Common.{◌≡◌, ℕ, ◌+◌, ◌-◌, ◌*◌, ◌≤◌, Bool, List, ◌++◌, length, get_or, take, drop, set, Result, sym, refl, ap, ◌∙◌, subst, ap₂, arith}
use borrow.Rule.Slice.PartMut.{put_mid}
use Rattle.std.proofs.lemmas.List.{set-get_or}
use Rattle.scale.specs.Operations.{Operations}
use Rattle.job.specs.declared.job.Job.{Job}
use Rattle.job.specs.declared.refusal.Refusal.{Refusal}
use Rattle.link.specs.declared.message.Message.{Message}
use Rattle.head.specs.declared.best.Best.{Best}
use Rattle.head.specs.declared.record.Record.{Record}
use Rattle.head.specs.declared.receive.Received.{Received}
use Rattle.head.specs.Bests.{at_first}
use Rattle.head.specs.Views.{Turn as Turning, stays, becomes, Turns, Turned, spot}
use Rattle.head.specs.Replies.{reply}
use Rattle.link.specs.Posting.{Sent}
use Rattle.head.specs.Strays.{fits}
use Rattle.head.specs.Readiness.{Goes}
use Rattle.head.specs.Lent.{Lent, lent, blank, is_out, best_of}
use Rattle.head.specs.Receiving.{its_record, replies, Responds, Heeds, Placed}
use Rattle.head.proofs.Rows.{put_same, put_set, read_part}

-- writing a record back is the turn that the record makes
turned_back : {S : Type 0} (records : List (Record S)) (at : ℕ) (d known : Record S) (t : Turning S) → Turns t (get_or records at d) known → Turned records at t (set records at known)
turned_back records at d known stays e = ap (set records at) e ∙ set-get_or records at d
turned_back records at d known (becomes v) e = (known, e, refl)

module _ {S : Type 0} (s : Operations S) (out : ℕ) (j : Job) (costs : List S) (records : List (Record S)) (bests : List (Best S)) (limit : ℕ) (bag : List (Message S)) (m : Message S)
    (placed : Placed j records bests m) where
  abbrev first : ℕ
  first = 8 * (m.to - 1)

  abbrev row : List (Record S)
  row = take 8 (drop first records)

  abbrev whole : Lent S
  whole = lent j costs records bests limit bag

  room : first + 8 ≤ length records
  room = omega (arith, placed.enough_records, placed.few_heads)

  rec_is : get_or row m.search (blank s) ≡ its_record s whole m
  rec_is = read_part records first 8 room m.search placed.few_searches (blank s)

  same_best : (b : Best S) → b ≡ get_or bests (m.to - 1) (at_first s) → set bests (m.to - 1) b ≡ bests
  same_best b e = ap (set bests (m.to - 1)) e ∙ set-get_or bests (m.to - 1) (at_first s)

  same_lent : (row' : List (Record S)) (b : Best S) (limit' : ℕ) (bag' : List (Message S)) → row' ≡ row → b ≡ best_of s whole m.to → limit' ≡ limit → bag' ≡ bag →
      lent j costs (put_mid first 8 records row') (set bests (m.to - 1) b) limit' bag' ≡ whole
  same_lent row' b limit' bag' r e l g =
      let rs : put_mid first 8 records row' ≡ records = ap (put_mid first 8 records) r ∙ put_same records first 8 room in
      let bs : set bests (m.to - 1) b ≡ bests = same_best b e in
      ap₂ (λ (x : List (Record S)) (y : List (Best S)). lent j costs x y limit' bag') rs bs ∙ ap₂ (λ (x : ℕ) (y : List (Message S)). lent j costs records bests x y) l g

  lost_as : (ms : List (Message S)) (x y : Bool) (limit' : ℕ) (bag' : List (Message S)) → y ≡ x → Sent limit bag ms x limit' bag' → Sent limit bag ms y limit' bag'
  lost_as ms x y limit' bag' e t = subst (λ (z : Bool). Sent limit bag ms z limit' bag') (sym e) t

  heeds : (flag : Bool) (best : Best S) (r : Result Received Refusal) (row' : List (Record S)) (best' : Best S) (limit' : ℕ) (bag' : List (Message S)) → flag ≡ is_out out m.search → best ≡ best_of s whole m.to →
      Responds s j costs flag row best m limit bag r row' best' limit' bag' → Heeds s out whole m r (lent j costs (put_mid first 8 records row') (set bests (m.to - 1) best') limit' bag')
  heeds flag best r row' best' limit' bag' f b (Responds.strays n e rr bb ll gg) =
      Heeds.strays n (ap₂ (λ (o : Bool) (x : Record S). fits j o x m) (sym f) (sym rec_is) ∙ e) (same_lent row' best' limit' bag' rr (bb ∙ b) ll gg)
  heeds flag best r row' best' limit' bag' f b (Responds.leaves_owed k e o rr bb ll gg) =
      Heeds.leaves_owed k (ap₂ (λ (o : Bool) (x : Record S). fits j o x m) (sym f) (sym rec_is) ∙ e) o (same_lent row' best' limit' bag' rr (bb ∙ b) ll gg)
  heeds flag best r row' best' limit' bag' f b (Responds.has_acted t k e is so rr hh ll) =
      let now : Goes s j costs (its_record s whole m) m (best_of s whole m.to) m.kind limit bag t best' limit' bag' =
      subst (λ (x : Best S). Goes s j costs (its_record s whole m) m x m.kind limit bag t best' limit' bag') b (subst (λ (x : Record S). Goes s j costs x m best m.kind limit bag t best' limit' bag') rec_is so) in
      let rows : put_mid first 8 records row' ≡ set records (spot m.to m.search) t.known = ap (put_mid first 8 records) rr ∙ put_set records first 8 room m.search placed.few_searches t.known in
      Heeds.has_acted now.picked k (ap₂ (λ (o : Bool) (x : Record S). fits j o x m) (sym f) (sym rec_is) ∙ e) is now.picks refl refl
      (subst (λ (xs : List (Record S)). Turned records (spot m.to m.search) (reply s j costs now.picked (its_record s whole m) m (best_of s whole m.to) m.kind).turn xs) (sym rows)
      (turned_back records (spot m.to m.search) (blank s) t.known _ now.looks))
      (ap (set bests (m.to - 1)) now.best_is) (hh ∙ now.home)
      (lost_as ((replies s whole m now.picked).notices ++ (replies s whole m now.picked).posts) t.lost _ limit' bag' ll now.sent)

  pub heeds_at : (a k : ℕ) (flag : Bool) (best : Best S) (r : Result Received Refusal) (row' : List (Record S)) (best' : Best S) (bests' : List (Best S)) (limit' : ℕ) (bag' : List (Message S)) → a ≡ first → k ≡ 8 → flag ≡ is_out out m.search →
      best ≡ best_of s whole m.to → bests' ≡ set bests (m.to - 1) best' → Responds s j costs flag (take k (drop a records)) best m limit bag r row' best' limit' bag' → Heeds s out whole m r (lent j costs (put_mid a k records row') bests' limit' bag')
  heeds_at a k flag best r row' best' bests' limit' bag' ea ek f b bs so =
      let at : Responds s j costs flag row best m limit bag r row' best' limit' bag' = subst (λ (x : List (Record S)). Responds s j costs flag x best m limit bag r row' best' limit' bag') (ap₂ (λ (x y : ℕ). take y (drop x records)) ea ek) so in
      subst (λ (l : Lent S). Heeds s out whole m r l) (sym (ap₂ (λ (x y : ℕ). lent j costs (put_mid x y records row') bests' limit' bag') ea ek ∙ ap (λ (z : List (Best S)). lent j costs (put_mid first 8 records row') z limit' bag') bs))
      (heeds flag best r row' best' limit' bag' f b at)
