-- What an accepted file holds: a table with its facts, of which it is the file.
use Rattle.std.proofs.Common.{◌≡◌, ℕ, zero, suc, ◌+◌, ◌*◌, ◌<◌, ◌≤◌, Bool, true, false, cond, eqb, ltb, leb, List, [], ◌∷◌, ◌++◌, length, get_or, nat_abs, Ok, All, sym, refl, ap, ◌∙◌, subst, suc-mul, zero-mul, arith, w16}
use Rattle.std.specs.List.{flat_map}
use Rattle.std.proofs.lemmas.Int.{of_z-to_z}
use Rattle.std.proofs.lemmas.List.Elements.{All-nil, All-cons}
use Rattle.std.proofs.lemmas.Bool.{ltb-false, ltb-true, leb-true, eqb-true, and_parts}
use Rattle.mdp.specs.Limits.{max_states, max_divisor, max_columns, max_choices, max_branches, max_reward}
use Rattle.mdp.specs.Table.{State, total_weight, BranchFacts, ChoiceFacts, StateFacts, Facts}
use Rattle.file_check.specs.declared.check.Header.{Header}
use Rattle.file_check.specs.Layout.{two, reward_bytes, branch_bytes, choice_bytes, block, pairs_bytes, header_bytes, encode}
use Rattle.file_check.specs.Check.{max_file, then_do, within, word, header_of, field_at, reward_fits, rewards_at, branch_at, branches_at, branch_size, choice_after, choice_at, choices_at, block_end, blocks_at, pairs_at, pair_fits, header_at, check_result}
use Rattle.file_check.specs.Decode.{steps, reward_in, rewards_in, branch_in, branches_in, choice_in, choices_in, state_in, states_in, decode}
use Rattle.file_check.specs.Accepts.{Bytes}
use Rattle.file_check.proofs.Steps.{pair_parts}
use Rattle.file_check.proofs.Pieces.{Piece, piece_none, piece_whole, piece_to, piece_as, piece_join, piece_length, byte_piece, word_below, word_piece, then_inv, cond_inv, cond_inv_not, ok_same, field_inv}

pub length_steps : {X : Type 0} (f : ℕ → X) (d p n : ℕ) → length (steps f d p n) ≡ n
length_steps f d p zero = refl
length_steps f d p (suc n) = ap suc (length_steps f d (p + d) n)

module _ (xs : List ℕ) (b : Bytes xs) where
  record RewardsOk (e p n : ℕ) : Type 0 where
    pub inside : p + 2 * n ≤ e
    pub small : All (λ r. nat_abs r ≤ max_reward) (rewards_in xs p n)
    pub stands : Piece xs p (flat_map reward_bytes (rewards_in xs p n)) (p + 2 * n)

  reward_piece : (p : ℕ) → p + 2 ≤ length xs → Piece xs p (reward_bytes (reward_in xs p)) (p + 2)
  reward_piece p h = piece_as (word_piece xs b p h) (ap two (sym (of_z-to_z w16 (word xs p) (word_below xs b p))))

  rewards_sound : (e p n : ℕ) → e ≤ length xs → p ≤ e → rewards_at xs e p n ≡ Ok tt → RewardsOk e p n
  rewards_sound e p zero le h k = record { inside = omega arith; small = All-nil (λ r. nat_abs r ≤ max_reward); stands = piece_none (omega arith) }
  rewards_sound e p (suc n) le h k =
      let f = then_inv (field_at xs e p) _ tt k in
      let g = field_inv xs e p f.0 f.1 in
      let c = cond_inv (reward_fits f.0) _ _ tt f.2 in
      let fits : reward_fits (word xs p) ≡ true = rw g.1 at c.0 in
      let r = rewards_sound e (p + 2) n le g.0 c.1 in
      let z : p + 2 + 2 * n ≡ p + 2 * suc n = omega arith in
      record {
        inside = omega arith;
        small = All-cons (λ r. nat_abs r ≤ max_reward) _ _ (leb-true _ max_reward fits) r.small;
        stands = piece_to (piece_join (reward_piece p (omega arith)) r.stands) z;
      }

  module _ (l : Header) (e : ℕ) (le : e ≤ length xs) where
    record BranchOk (p : ℕ) : Type 0 where
      pub inside : p + branch_size l.columns ≤ e
      pub facts : BranchFacts l.states l.divisor l.columns (branch_in xs l.columns p)
      pub stands : Piece xs p (branch_bytes (branch_in xs l.columns p)) (p + branch_size l.columns)

    branch_weight : (p w : ℕ) → branch_at xs l e p ≡ Ok w → w ≡ word xs p
    branch_weight p w k =
        let f = then_inv (field_at xs e p) _ w k in
        let c = cond_inv (within 1 l.divisor f.0) _ _ w f.2 in
        let g = then_inv (field_at xs e (p + 2)) _ w c.1 in
        let d = cond_inv (ltb g.0 l.states) _ _ w g.2 in
        let r = then_inv (rewards_at xs e (p + 4) l.columns) _ w d.1 in
        sym (ok_same _ _ r.2) ∙ (field_inv xs e p f.0 f.1).1

    branch_sound : (p w : ℕ) → branch_at xs l e p ≡ Ok w → BranchOk p
    branch_sound p w k =
        let f = then_inv (field_at xs e p) _ w k in
        let fi = field_inv xs e p f.0 f.1 in
        let c = cond_inv (within 1 l.divisor f.0) _ _ w f.2 in
        let ca = and_parts (leb 1 f.0) (leb f.0 l.divisor) c.0 in
        let g = then_inv (field_at xs e (p + 2)) _ w c.1 in
        let gi = field_inv xs e (p + 2) g.0 g.1 in
        let d = cond_inv (ltb g.0 l.states) _ _ w g.2 in
        let r = then_inv (rewards_at xs e (p + 4) l.columns) _ w d.1 in
        let s = rewards_sound e (p + 4) l.columns le (omega arith) r.1 in
        let lo = leb-true _ _ ca.0 in
        let hi = leb-true _ _ ca.1 in
        let nx = ltb-true _ _ d.0 in
        let q : p + 4 + 2 * l.columns ≡ p + branch_size l.columns = omega arith in
        let e4 : p + 2 + 2 ≡ p + 4 = omega arith in
        record {
          inside = omega (arith, s.inside);
          facts = record {
            weight_low = omega arith;
            weight_high = omega arith;
            next_in = omega arith;
            rewards_all = length_steps _ 2 (p + 4) l.columns;
            rewards_small = s.small;
          };
          stands = piece_to (piece_join (word_piece xs b p (omega arith)) (piece_join (piece_to (word_piece xs b (p + 2) (omega arith)) e4) s.stands)) q;
        }

    record BranchesOk (p n sum s : ℕ) : Type 0 where
      pub inside : p + n * branch_size l.columns ≤ e
      pub total : s ≡ sum + total_weight (branches_in xs l.columns p n)
      pub facts : All (BranchFacts l.states l.divisor l.columns) (branches_in xs l.columns p n)
      pub stands : Piece xs p (flat_map branch_bytes (branches_in xs l.columns p n)) (p + n * branch_size l.columns)

    branches_sound : (p n sum s : ℕ) → p ≤ e → branches_at xs l e p n sum ≡ Ok s → BranchesOk p n sum s
    branches_sound p zero sum s h k =
        let z : sum ≡ s = ok_same _ _ k in
        let o : p ≡ p + 0 * branch_size l.columns = omega (arith, zero-mul (branch_size l.columns)) in
        record { inside = omega arith; total = omega arith; facts = All-nil (BranchFacts l.states l.divisor l.columns); stands = piece_none o }
    branches_sound p (suc n) sum s h k =
        let f = then_inv (branch_at xs l e p) _ s k in
        let g = branch_sound p f.0 f.1 in
        let w = branch_weight p f.0 f.1 in
        let r = branches_sound (p + branch_size l.columns) n (sum + f.0) s g.inside f.2 in
        let o : p + branch_size l.columns + n * branch_size l.columns ≡ p + suc n * branch_size l.columns = omega (arith, suc-mul n (branch_size l.columns)) in
        record {
          inside = omega arith;
          total = omega arith;
          facts = All-cons (BranchFacts l.states l.divisor l.columns) _ _ g.facts r.facts;
          stands = piece_to (piece_join g.stands r.stands) o;
        }

    pub record ChoiceOk (p q : ℕ) : Type 0 where
      pub after : q ≡ choice_after xs l.columns p
      pub inside : q ≤ e
      pub facts : ChoiceFacts l.states l.divisor l.columns (choice_in xs l.columns p)
      pub stands : Piece xs p (choice_bytes (choice_in xs l.columns p)) q

    pub choice_sound : (p q : ℕ) → p < e → choice_at xs l e p ≡ Ok q → ChoiceOk p q
    choice_sound p q h k =
        let n = get_or xs p 0 in
        let c = cond_inv (within 1 max_branches n) _ _ q k in
        let ca = and_parts (leb 1 n) (leb n max_branches) c.0 in
        let f = then_inv (branches_at xs l e (p + 1) n 0) _ q c.1 in
        let d = cond_inv (eqb f.0 l.divisor) _ _ q f.2 in
        let r = branches_sound (p + 1) n 0 f.0 (omega arith) f.1 in
        let a : choice_after xs l.columns p ≡ q = ok_same _ _ d.1 in
        let size = length_steps (branch_in xs l.columns) (branch_size l.columns) (p + 1) n in
        let sum = eqb-true _ _ d.0 in
        let lo = leb-true _ _ ca.0 in
        let hi = leb-true _ _ ca.1 in
        record {
          after = sym a;
          inside = omega arith;
          facts = record { some = omega arith; few = omega arith; whole = omega arith; branches = r.facts };
          stands = piece_to (piece_as (piece_join (byte_piece xs p (omega arith)) r.stands) (ap (λ m. m ∷ flat_map branch_bytes (choice_in xs l.columns p)) (sym size))) a;
        }

    record ChoicesOk (p n : ℕ) (cs : State) : Type 0 where
      pub few : length cs ≤ n
      pub some : p < e → 1 ≤ length cs
      pub facts : All (ChoiceFacts l.states l.divisor l.columns) cs
      pub stands : Piece xs p (block cs) e

    choices_none : (p n : ℕ) → p ≤ e → ltb p e ≡ false → ChoicesOk p n []
    choices_none p n h f =
        let g = ltb-false _ _ f in
        record { few = omega arith; some = λ m. omega arith; facts = All-nil (ChoiceFacts l.states l.divisor l.columns); stands = piece_none (omega arith) }

    choices_turn : (p n : ℕ) → ((p : ℕ) → p ≤ e → choices_at xs l e p n ≡ Ok tt → ChoicesOk p n (choices_in xs l.columns e p n))
        → (t : Bool) → ltb p e ≡ t → p ≤ e → cond t (then_do (choice_at xs l e p) (λ r. choices_at xs l e r n)) (Ok tt) ≡ Ok tt
        → ChoicesOk p (suc n) (cond t (choice_in xs l.columns p ∷ choices_in xs l.columns e (choice_after xs l.columns p) n) [])
    choices_turn p n ih true b h k =
        let f = then_inv (choice_at xs l e p) _ tt k in
        let g = choice_sound p f.0 (ltb-true _ _ b) f.1 in
        let r = rw g.after at (ih f.0 g.inside f.2) in
        record {
          few = omega arith;
          some = λ _. omega arith;
          facts = All-cons (ChoiceFacts l.states l.divisor l.columns) _ _ g.facts r.facts;
          stands = piece_join (piece_to g.stands g.after) r.stands;
        }
    choices_turn p n ih false b h k = choices_none p (suc n) h b

    choices_sound : (n p : ℕ) → p ≤ e → choices_at xs l e p n ≡ Ok tt → ChoicesOk p n (choices_in xs l.columns e p n)
    choices_sound zero p h k = choices_none p 0 h (cond_inv_not (ltb p e) (Ok tt) _ tt k).0
    choices_sound (suc n) p h k = choices_turn p n (choices_sound n) (ltb p e) refl h k

  pair_piece : {q : ℕ} (p o : ℕ) (cs : State) (ss : List State) → p + 4 ≤ length xs → word xs p ≡ o → length (block cs) ≡ word xs (p + 2)
      → Piece xs (p + 4) (pairs_bytes (o + word xs (p + 2)) ss) q → Piece xs p (pairs_bytes o (cs ∷ ss)) q
  pair_piece p o cs ss h e size r =
      let e4 : p + 2 + 2 ≡ p + 4 = omega arith in
      let w : Piece xs p (two o) (p + 2) = piece_as (word_piece xs b p (omega arith)) (ap two e) in
      let v = piece_join w (piece_join (piece_to (word_piece xs b (p + 2) (omega arith)) e4) r) in
      piece_as v (ap (λ m. two o ++ (two m ++ pairs_bytes (o + m) ss)) (sym size))

  module _ (l : Header) where
    record StatesOk (p o n : ℕ) : Type 0 where
      pub facts : All (StateFacts l.states l.divisor l.columns) (states_in xs l.columns p n)
      pub pairs : Piece xs p (pairs_bytes o (states_in xs l.columns p n)) (p + 4 * n)
      pub blocks : Piece xs o (flat_map block (states_in xs l.columns p n)) (length xs)

    states_sound : (n p o : ℕ) → p + 4 * n ≤ length xs → pairs_at xs p o n ≡ Ok tt → blocks_at xs l p n ≡ Ok tt → StatesOk p o n
    states_sound zero p o h k m =
        let c = cond_inv (eqb o (length xs)) (Ok tt) _ tt k in
        record { facts = All-nil (StateFacts l.states l.divisor l.columns); pairs = piece_none (omega arith); blocks = piece_none (eqb-true _ _ c.0) }
    states_sound (suc n) p o h k m =
        let c = cond_inv (pair_fits xs p o) _ _ tt k in
        let w = pair_parts xs p o (sym c.0) in
        let end = block_end xs p in
        let f = then_inv (choices_at xs l end (word xs p) max_choices) _ tt m in
        let s = choices_sound l end (omega arith) max_choices (word xs p) (omega arith) f.1 in
        let r = states_sound n (p + 4) (o + word xs (p + 2)) (omega arith) c.1 f.2 in
        let cs = choices_in xs l.columns end (word xs p) max_choices in
        let ss = states_in xs l.columns (p + 4) n in
        let size : length (block cs) ≡ word xs (p + 2) = piece_length s.stands (omega arith) (omega arith) ∙ omega arith in
        let en : p + 4 + 4 * n ≡ p + 4 * suc n = omega arith in
        let eo : end ≡ o + word xs (p + 2) = omega arith in
        record {
          facts = All-cons (StateFacts l.states l.divisor l.columns) _ _ (record { some = s.some (omega arith); few = s.few; choices = s.facts }) r.facts;
          pairs = piece_to (pair_piece p o cs ss (omega arith) w.stands size r.pairs) en;
          blocks = piece_join (piece_to (subst (λ a. Piece xs a (block cs) end) w.stands s.stands) eo) r.blocks;
        }

  pub record HeaderOk : Type 0 where
    pub some : 1 ≤ word xs 0
    pub few : word xs 0 ≤ max_states
    pub first_in : word xs 2 < word xs 0
    pub divisor_low : 1 ≤ word xs 4
    pub divisor_high : word xs 4 ≤ max_divisor
    pub columns_low : 1 ≤ get_or xs 6 0
    pub columns_high : get_or xs 6 0 ≤ max_columns
    pub last : get_or xs 7 0 ≡ 0

  header_sound : (h : Header) → header_at xs ≡ Ok h → (h ≡ header_of xs) × HeaderOk
  header_sound h k =
      let a = cond_inv (within 1 max_states (word xs 0)) _ _ h k in
      let c = cond_inv (ltb (word xs 2) (word xs 0)) _ _ h a.1 in
      let d = cond_inv (within 1 max_divisor (word xs 4)) _ _ h c.1 in
      let f = cond_inv (within 1 max_columns (get_or xs 6 0)) _ _ h d.1 in
      let g = cond_inv (eqb (get_or xs 7 0) 0) (Ok (header_of xs)) _ h f.1 in
      let aa = and_parts (leb 1 (word xs 0)) (leb (word xs 0) max_states) a.0 in
      let dd = and_parts (leb 1 (word xs 4)) (leb (word xs 4) max_divisor) d.0 in
      let ff = and_parts (leb 1 (get_or xs 6 0)) (leb (get_or xs 6 0) max_columns) f.0 in (
        sym (ok_same _ _ g.1),
        record {
          some = leb-true 1 _ aa.0;
          few = leb-true _ max_states aa.1;
          first_in = ltb-true _ _ c.0;
          divisor_low = leb-true 1 _ dd.0;
          divisor_high = leb-true _ max_divisor dd.1;
          columns_low = leb-true 1 _ ff.0;
          columns_high = leb-true _ max_columns ff.1;
          last = eqb-true _ _ g.0;
        },
      )

  header_piece : 8 ≤ length xs → get_or xs 7 0 ≡ 0 → Piece xs 0 (header_bytes (decode xs)) 8
  header_piece h z =
      let n = length_steps (state_in xs (get_or xs 6 0)) 4 8 (word xs 0) in
      let l6 : Piece xs 6 (get_or xs 6 0 ∷ 0 ∷ []) 8 = piece_join (byte_piece xs 6 (omega arith)) (piece_as (byte_piece xs 7 (omega arith)) (ap (λ m. m ∷ []) z)) in
      let l4 = piece_join (word_piece xs b 4 (omega arith)) l6 in
      let l2 = piece_join (word_piece xs b 2 (omega arith)) l4 in
      piece_join (piece_as (word_piece xs b 0 (omega arith)) (ap two (sym n))) l2

  -- the steps that an accepted file has passed
  pub record Passed : Type 0 where
    pub long : 8 ≤ length xs
    pub short : length xs ≤ max_file
    pub header : HeaderOk
    pub room : 8 + 4 * word xs 0 ≤ length xs
    pub pairs : pairs_at xs 8 (8 + 4 * word xs 0) (word xs 0) ≡ Ok tt
    pub blocks : blocks_at xs (header_of xs) 8 (word xs 0) ≡ Ok tt

  pub passed : check_result xs ≡ Ok tt → Passed
  passed k =
      let a = cond_inv (within 8 max_file (length xs)) _ _ tt k in
      let aa = and_parts (leb 8 (length xs)) (leb (length xs) max_file) a.0 in
      let f = then_inv (header_at xs) _ tt a.1 in
      let h = header_sound f.0 f.1 in
      let rest = rw h.0 at f.2 in
      let c = cond_inv (leb (8 + 4 * word xs 0) (length xs)) _ _ tt rest in
      let g = then_inv (pairs_at xs 8 (8 + 4 * word xs 0) (word xs 0)) _ tt c.1 in
      record {
        long = leb-true 8 _ aa.0;
        short = leb-true _ max_file aa.1;
        header = h.1;
        room = leb-true _ _ c.0;
        pairs = g.1;
        blocks = g.2;
      }

  pub record Sound : Type 0 where
    pub facts : Facts (decode xs)
    pub file : encode (decode xs) ≡ xs

  pub check_sound : Passed → Sound
  check_sound k =
      let h = k.header in
      let s = states_sound (header_of xs) (word xs 0) 8 (8 + 4 * word xs 0) k.room k.pairs k.blocks in
      let n : word xs 0 ≡ length (decode xs).states = sym (length_steps (state_in xs (get_or xs 6 0)) 4 8 (word xs 0)) in
      let whole = piece_join (header_piece k.long h.last) (piece_join (piece_as s.pairs (ap (λ m. pairs_bytes (8 + 4 * m) (decode xs).states) n)) s.blocks) in
      record {
        facts = record {
          some = subst (λ m. 1 ≤ m) n h.some;
          few = subst (λ m. m ≤ max_states) n h.few;
          first_in = subst (λ m. word xs 2 < m) n h.first_in;
          divisor_low = h.divisor_low;
          divisor_high = h.divisor_high;
          columns_low = h.columns_low;
          columns_high = h.columns_high;
          each = subst (λ m. All (StateFacts m (word xs 4) (get_or xs 6 0)) (decode xs).states) n s.facts;
        };
        file = piece_whole whole;
      }
