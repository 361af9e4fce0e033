-- The file of a table with its facts is accepted, and holds that table.
use Rattle.std.proofs.Common.{◌≡◌, ℕ, zero, suc, ◌+◌, ◌*◌, ◌≤◌, true, false, eqb, ltb, List, [], ◌∷◌, ◌++◌, length, get_or, ℤ, nat_abs, Ok, All, sym, refl, ap, ◌∙◌, subst, suc-mul, zero-add, zero-mul, arith, length-append, w16, SFits, to_z, of_z}
use Rattle.std.specs.List.{flat_map}
use Rattle.std.proofs.lemmas.Int.{to_z-of_z, ints}
use Rattle.std.proofs.lemmas.List.{append-nil, drop_all}
use Rattle.std.proofs.lemmas.List.Elements.{All-head, All-tail}
use Rattle.std.proofs.lemmas.Bool.{cond-true, cond-false, lt-ltb, le-ltb, le-leb, eq-eqb, and_from}
use Rattle.mdp.specs.Limits.{max_states, max_divisor, max_columns, max_choices, max_reward}
use Rattle.mdp.specs.Table.{Branch, State, Table, total_weight, BranchFacts, ChoiceFacts, StateFacts, Facts}
use Rattle.file_check.specs.declared.check.Header.{Header}
use Rattle.file_check.specs.Layout.{two, reward_bytes, branch_bytes, choice_bytes, block, pairs_bytes, header_bytes, encode}
use Rattle.file_check.specs.Check.{max_file, word, header_of, reward_fits, rewards_at, branch_at, branches_at, branch_size, choice_after, choice_at, choices_at, block_end, blocks_at, pairs_at, pair_fits, header_at, check_result}
use Rattle.file_check.specs.Decode.{rewards_in, branch_in, branches_in, choice_in, choices_in, states_in, decode}
use Rattle.file_check.proofs.Steps.{then_ok}
use Rattle.file_check.proofs.Pieces.{Piece, piece_split, piece_first, piece_word, field_ok}

reward_word : (r : ℤ) → nat_abs r ≤ max_reward → to_z w16 (of_z w16 r) ≡ r
reward_word r h = let f : SFits w16 r = record { sfits = grind (arith, ints) } in to_z-of_z w16 r f

cons_same : {X : Type 0} {x y : X} {s t : List X} → x ≡ y → s ≡ t → x ∷ s ≡ y ∷ t
cons_same e f = rw (e, f) refl

branch_same : {b : Branch} {w n : ℕ} {rs : List ℤ} → w ≡ b.weight → n ≡ b.next → rs ≡ b.rewards → ◌≡◌ {A = Branch} (record { weight = w; next = n; rewards = rs }) b
branch_same {b} e f g = rw (e, f, g) refl

module _ (xs : List ℕ) where
  record RewardsRead (e p : ℕ) (rs : List ℤ) : Type 0 where
    pub reads : rewards_in xs p (length rs) ≡ rs
    pub passes : rewards_at xs e p (length rs) ≡ Ok tt

  rewards_read : (e p q : ℕ) (rs : List ℤ) → All (λ r. nat_abs r ≤ max_reward) rs → p + 2 * length rs ≤ e → Piece xs p (flat_map reward_bytes rs) q → RewardsRead e p rs
  rewards_read e p q [] small h f = record { reads = refl; passes = refl }
  rewards_read e p q (r ∷ rs) small h f =
      let s = piece_split (reward_bytes r) f in
      let w = piece_word (of_z w16 r) s.0 in
      let low = All-head (λ r. nat_abs r ≤ max_reward) r rs small in
      let k = reward_word r low in
      let fits : reward_fits (of_z w16 r) ≡ true = rw k (le-leb _ _ low) in
      let m = rewards_read e (p + 2) q rs (All-tail (λ r. nat_abs r ≤ max_reward) r rs small) (omega arith) s.1 in
      record {
        reads = rw (w, k, m.reads) refl;
        passes = then_ok _ (field_ok xs e p (of_z w16 r) (omega arith) w) ∙ (cond-true _ _ _ fits ∙ m.passes);
      }

  length_rewards : (rs : List ℤ) → length (flat_map reward_bytes rs) ≡ 2 * length rs
  length_rewards [] = refl
  length_rewards (r ∷ rs) = let k = length_rewards rs in omega arith

  module _ (l : Header) where
    length_branch : (b : Branch) → BranchFacts l.states l.divisor l.columns b → length (branch_bytes b) ≡ branch_size l.columns
    length_branch b f = let k = length_rewards b.rewards in let c = f.rewards_all in omega arith

    record BranchRead (e p : ℕ) (b : Branch) : Type 0 where
      pub reads : branch_in xs l.columns p ≡ b
      pub passes : branch_at xs l e p ≡ Ok b.weight

    branch_read : (e p q : ℕ) (b : Branch) → BranchFacts l.states l.divisor l.columns b → p + branch_size l.columns ≤ e → Piece xs p (branch_bytes b) q → BranchRead e p b
    branch_read e p q b f h k =
        let s = piece_split (two b.weight) k in
        let t = piece_split (two b.next) s.1 in
        let w = piece_word b.weight s.0 in
        let n = piece_word b.next t.0 in
        let e4 : p + 2 + 2 ≡ p + 4 = omega arith in
        let r : RewardsRead e (p + 4) b.rewards = rewards_read e (p + 4) q b.rewards f.rewards_small (omega arith) (rw e4 at t.1) in
        let c = f.rewards_all in
        let rs : rewards_in xs (p + 4) l.columns ≡ b.rewards = rw c at r.reads in
        let rp : rewards_at xs e (p + 4) l.columns ≡ Ok tt = rw c at r.passes in
        record {
          reads = branch_same w n rs;
          passes =
              then_ok _ (field_ok xs e p b.weight (omega arith) w)
              ∙ (cond-true _ _ _ (and_from _ _ (le-leb _ _ f.weight_low) (le-leb _ _ f.weight_high))
              ∙ (then_ok _ (field_ok xs e (p + 2) b.next (omega arith) n)
              ∙ (cond-true _ _ _ (lt-ltb _ _ f.next_in)
              ∙ then_ok _ (sym rp))));
        }

    record BranchesRead (e p sum : ℕ) (bs : List Branch) : Type 0 where
      pub reads : branches_in xs l.columns p (length bs) ≡ bs
      pub passes : branches_at xs l e p (length bs) sum ≡ Ok (sum + total_weight bs)

    branches_read : (e p q sum : ℕ) (bs : List Branch) → All (BranchFacts l.states l.divisor l.columns) bs → p + length bs * branch_size l.columns ≤ e → Piece xs p (flat_map branch_bytes bs) q → BranchesRead e p sum bs
    branches_read e p q sum [] f h k = record { reads = refl; passes = ap Ok (omega arith) }
    branches_read e p q sum (b ∷ bs) f h k =
        let s = piece_split (branch_bytes b) k in
        let f0 = All-head (BranchFacts l.states l.divisor l.columns) b bs f in
        let z = length_branch b f0 in
        let m = suc-mul (length bs) (branch_size l.columns) in
        let one = branch_read e p _ b f0 (omega arith) s.0 in
        let rest : Piece xs (p + branch_size l.columns) (flat_map branch_bytes bs) q = subst (λ n. Piece xs (p + n) (flat_map branch_bytes bs) q) z s.1 in
        let r = branches_read e (p + branch_size l.columns) q (sum + b.weight) bs (All-tail (BranchFacts l.states l.divisor l.columns) b bs f) (omega arith) rest in
        record {
          reads = rw (one.reads, r.reads) refl;
          passes = then_ok _ (sym one.passes) ∙ (r.passes ∙ ap Ok (omega arith));
        }

    length_branches : (bs : List Branch) → All (BranchFacts l.states l.divisor l.columns) bs → length (flat_map branch_bytes bs) ≡ length bs * branch_size l.columns
    length_branches [] f = sym (zero-mul (branch_size l.columns))
    length_branches (b ∷ bs) f =
        let z = length_branch b (All-head (BranchFacts l.states l.divisor l.columns) b bs f) in
        let r = length_branches bs (All-tail (BranchFacts l.states l.divisor l.columns) b bs f) in
        length-append (branch_bytes b) (flat_map branch_bytes bs) ∙ omega (arith, suc-mul (length bs) (branch_size l.columns))

    record ChoiceRead (e p : ℕ) (bs : List Branch) : Type 0 where
      pub count : get_or xs p 0 ≡ length bs
      pub reads : choice_in xs l.columns p ≡ bs
      pub after : choice_after xs l.columns p ≡ p + length (choice_bytes bs)
      pub passes : choice_at xs l e p ≡ Ok (p + length (choice_bytes bs))

    choice_read : (e p q : ℕ) (bs : List Branch) → ChoiceFacts l.states l.divisor l.columns bs → p + length (choice_bytes bs) ≤ e → Piece xs p (choice_bytes bs) q → ChoiceRead e p bs
    choice_read e p q bs f h k =
        let c : get_or xs p 0 ≡ length bs = piece_first k in
        let s = piece_split (length bs ∷ []) k in
        let z = length_branches bs f.branches in
        let r = branches_read e (p + 1) q 0 bs f.branches (omega arith) s.1 in
        let a : p + 1 + length bs * branch_size l.columns ≡ p + length (choice_bytes bs) = omega arith in
        let t : 0 + total_weight bs ≡ l.divisor = zero-add _ ∙ f.whole in
        record {
          count = c;
          reads = rw c r.reads;
          after = rw c a;
          passes = rw c (cond-true _ _ _ (and_from _ _ (le-leb _ _ f.some) (le-leb _ _ f.few))
              ∙ (then_ok _ (sym r.passes)
              ∙ (cond-true _ _ _ (eq-eqb _ _ t) ∙ ap Ok a)));
        }

    record ChoicesRead (e p n : ℕ) (cs : State) : Type 0 where
      pub reads : choices_in xs l.columns e p n ≡ cs
      pub passes : choices_at xs l e p n ≡ Ok tt

    choices_read : (n e p q : ℕ) (cs : State) → All (ChoiceFacts l.states l.divisor l.columns) cs → length cs ≤ n → p + length (block cs) ≡ e → Piece xs p (block cs) q → ChoicesRead e p n cs
    choices_read zero e p q [] f h z k = record { reads = refl; passes = cond-false (ltb p e) _ _ (le-ltb _ _ (omega arith)) }
    choices_read zero e p q (c ∷ cs) f h z k = absurd (omega arith)
    choices_read (suc n) e p q [] f h z k =
        let b : ltb p e ≡ false = le-ltb _ _ (omega arith) in
        record { reads = cond-false (ltb p e) _ _ b; passes = cond-false (ltb p e) _ _ b }
    choices_read (suc n) e p q (c ∷ cs) f h z k =
        let s = piece_split (choice_bytes c) k in
        let y : length (block (c ∷ cs)) ≡ length (choice_bytes c) + length (block cs) = length-append (choice_bytes c) (block cs) in
        let one = choice_read e p _ c (All-head (ChoiceFacts l.states l.divisor l.columns) c cs f) (omega arith) s.0 in
        let r = choices_read n e (p + length (choice_bytes c)) q cs (All-tail (ChoiceFacts l.states l.divisor l.columns) c cs f) (omega arith) (omega arith) s.1 in
        let b : ltb p e ≡ true = lt-ltb _ _ (omega arith) in
        record {
          reads = cond-true (ltb p e) _ _ b ∙ cons_same one.reads (ap (λ a. choices_in xs l.columns e a n) one.after ∙ r.reads);
          passes = cond-true (ltb p e) _ _ b ∙ (then_ok _ (sym one.passes) ∙ r.passes);
        }

    block_some : (cs : State) → 1 ≤ length cs → 1 ≤ length (block cs)
    block_some [] h = absurd (omega arith)
    block_some (c ∷ cs) h = omega arith

    record StatesRead (p o : ℕ) (ss : List State) : Type 0 where
      pub reads : states_in xs l.columns p (length ss) ≡ ss
      pub pairs : pairs_at xs p o (length ss) ≡ Ok tt
      pub blocks : blocks_at xs l p (length ss) ≡ Ok tt

    states_read : (p o q : ℕ) (ss : List State) → All (StateFacts l.states l.divisor l.columns) ss → o + length (flat_map block ss) ≡ length xs
        → Piece xs p (pairs_bytes o ss) q → Piece xs o (flat_map block ss) (length xs) → StatesRead p o ss
    states_read p o q [] f z k m =
        record { reads = refl; pairs = cond-true (eqb o (length xs)) _ _ (eq-eqb _ _ (omega arith)); blocks = refl }
    states_read p o q (cs ∷ ss) f z k m =
        let s = piece_split (two o) k in
        let t = piece_split (two (length (block cs))) s.1 in
        let w : word xs p ≡ o = piece_word o s.0 in
        let v : word xs (p + 2) ≡ length (block cs) = piece_word (length (block cs)) t.0 in
        let e4 : p + 2 + 2 ≡ p + 4 = omega arith in
        let u = piece_split (block cs) m in
        let y : length (flat_map block (cs ∷ ss)) ≡ length (block cs) + length (flat_map block ss) = length-append (block cs) (flat_map block ss) in
        let f0 = All-head (StateFacts l.states l.divisor l.columns) cs ss f in
        let b = block_some cs f0.some in
        let one = choices_read max_choices (block_end xs p) (word xs p) _ cs f0.choices f0.few (omega arith) (subst (λ a. Piece xs a (block cs) (o + length (block cs))) (sym w) u.0) in
        let r = states_read (p + 4) (o + length (block cs)) q ss (All-tail (StateFacts l.states l.divisor l.columns) cs ss f) (omega arith) (subst (λ a. Piece xs a (pairs_bytes (o + length (block cs)) ss) q) e4 t.1) u.1 in
        let fits : pair_fits xs p o ≡ true = and_from _ _ (eq-eqb _ _ w) (and_from _ _ (lt-ltb 0 (word xs (p + 2)) (omega arith)) (le-leb (o + word xs (p + 2)) (length xs) (omega arith))) in
        record {
          reads = cons_same one.reads r.reads;
          pairs = cond-true (pair_fits xs p o) _ _ fits ∙ (ap (λ a. pairs_at xs (p + 4) (o + a) (length ss)) v ∙ r.pairs);
          blocks = then_ok (λ _. blocks_at xs l (p + 4) (length ss)) (sym one.passes) ∙ r.blocks;
        }

table_same : {t : Table} {f d c : ℕ} {ss : List State} → f ≡ t.first → d ≡ t.divisor → c ≡ t.columns → ss ≡ t.states → ◌≡◌ {A = Table} (record { first = f; divisor = d; columns = c; states = ss }) t
table_same e f g h = rw (e, f, g, h) refl

header_same : {n m f g d e c b : ℕ} → n ≡ m → f ≡ g → d ≡ e → c ≡ b → ◌≡◌ {A = Header} (record { states = n; first = f; divisor = d; columns = c }) (record { states = m; first = g; divisor = e; columns = b })
header_same p q r s = rw (p, q, r, s) refl

length_pairs : (o : ℕ) (ss : List State) → length (pairs_bytes o ss) ≡ 4 * length ss
length_pairs o [] = refl
length_pairs o (cs ∷ ss) = let k = length_pairs (o + length (block cs)) ss in omega arith

pub record Complete (xs : List ℕ) (t : Table) : Type 0 where
  pub reads : decode xs ≡ t
  pub passes : check_result xs ≡ Ok tt

pub check_complete : (xs : List ℕ) (t : Table) → Facts t → encode t ≡ xs → length xs ≤ max_file → Complete xs t
check_complete xs t f e short =
    let n = length t.states in
    let whole : Piece xs 0 (encode t) (length xs) = record { is = sym (ap (λ a. encode t ++ a) (drop_all (length xs) xs (omega arith)) ∙ (append-nil (encode t) ∙ e)) } in
    let size : length (encode t) ≡ length xs = ap length e in
    let lp = length_pairs (8 + 4 * n) t.states in
    let la : length (encode t) ≡ 8 + length (pairs_bytes (8 + 4 * n) t.states ++ flat_map block t.states) = length-append (header_bytes t) _ in
    let lb = length-append (pairs_bytes (8 + 4 * n) t.states) (flat_map block t.states) in
    let a = piece_split (header_bytes t) whole in
    let p0 = piece_split (two n) a.0 in
    let p2 = piece_split (two t.first) p0.1 in
    let p4 = piece_split (two t.divisor) p2.1 in
    let p6 = piece_split (t.columns ∷ []) p4.1 in
    let w0 : word xs 0 ≡ n = piece_word n p0.0 in
    let w2 : word xs 2 ≡ t.first = piece_word t.first p2.0 in
    let w4 : word xs 4 ≡ t.divisor = piece_word t.divisor p4.0 in
    let w6 : get_or xs 6 0 ≡ t.columns = piece_first p6.0 in
    let w7 : get_or xs 7 0 ≡ 0 = piece_first p6.1 in
    let l : Header = record { states = n; first = t.first; divisor = t.divisor; columns = t.columns } in
    let le : header_of xs ≡ l = header_same w0 w2 w4 w6 in
    let c = piece_split (pairs_bytes (8 + 4 * n) t.states) a.1 in
    let en : 8 + length (pairs_bytes (8 + 4 * n) t.states) ≡ 8 + 4 * n = omega arith in
    let s = states_read xs l 8 (8 + 4 * n) _ t.states f.each (omega arith) c.0 (subst (λ a. Piece xs a (flat_map block t.states) (length xs)) en c.1) in
    let hd : header_at xs ≡ Ok (header_of xs) =
    cond-true _ _ _ (and_from _ _ (le-leb 1 (word xs 0) (omega arith)) (le-leb (word xs 0) max_states (omega arith)))
    ∙ (cond-true _ _ _ (lt-ltb (word xs 2) (word xs 0) (omega arith))
    ∙ (cond-true _ _ _ (and_from _ _ (le-leb 1 (word xs 4) (omega arith)) (le-leb (word xs 4) max_divisor (omega arith)))
    ∙ (cond-true _ _ _ (and_from _ _ (le-leb 1 (get_or xs 6 0) (omega arith)) (le-leb (get_or xs 6 0) max_columns (omega arith)))
    ∙ cond-true _ _ _ (eq-eqb _ _ w7)))) in
    let ps : pairs_at xs 8 (8 + 4 * word xs 0) (word xs 0) ≡ Ok tt = ap (λ m. pairs_at xs 8 (8 + 4 * m) m) w0 ∙ s.pairs in
    let bs : blocks_at xs (header_of xs) 8 (word xs 0) ≡ Ok tt = ap (λ m. blocks_at xs m 8 m.states) le ∙ s.blocks in
    record {
      reads = table_same w2 w4 w6 (ap (λ m. states_in xs m 8 (word xs 0)) w6 ∙ (ap (λ m. states_in xs t.columns 8 m) w0 ∙ s.reads));
      passes =
          cond-true _ _ _ (and_from _ _ (le-leb 8 (length xs) (omega arith)) (le-leb (length xs) max_file short))
          ∙ (then_ok _ (sym hd)
          ∙ (cond-true _ _ _ (le-leb (8 + 4 * word xs 0) (length xs) (omega arith))
          ∙ (then_ok _ (sym ps) ∙ bs)));
    }
