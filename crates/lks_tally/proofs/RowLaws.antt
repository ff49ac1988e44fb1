-- Where each running hash stands in rows, and how rows grow and shrink.
use Rattle.std.proofs.Common.{◌≡◌, ℕ, zero, suc, ◌+◌, ◌*◌, ◌-◌, ◌<◌, ◌≤◌, Bool, List, [], ◌∷◌, ◌++◌, length, take}
use Rattle.std.proofs.Common.{drop, get_or, set, true, Some, inl, inr, refl, ap, sym, ◌∙◌, arith, add-one, sub-one}
use Rattle.std.proofs.Common.{eqb, false, cond, append_assoc, length-append}
use Rattle.std.specs.List.{slice_get, count_by}
use Rattle.std.proofs.Math.Nat.{suc-mul, mul_comm, mul-le-mul_right, mul-add}
use Rattle.std.proofs.lemmas.List.Sums.{count_by_more_yes, count_by_more_no}
use Rattle.std.proofs.lemmas.Bool.{cases_lt, ne_eqb}
use Rattle.std.proofs.lemmas.List.{take_more, take_more_set, map-append, get_or_append_left, get_or-append-add}
use Rattle.std.proofs.lemmas.List.{take_at, drop_at, length-take-le, append-nil}
use Rattle.lks_base.specs.Kinds.{is_second}
use Rattle.lks_hash.specs.Running.{linked, running}
use Rattle.lks_hash.proofs.RunningLaws.{running_more}
use Rattle.lks_tally.specs.declared.ballots.Ballot.{Ballot}
use Rattle.lks_tally.specs.declared.ballots.Vote.{Vote}
use Rattle.lks_tally.specs.Counting.{key_for, is_hash, agrees, voters_against}
use Rattle.lks_tally.specs.Heads.{heads, others}
use Rattle.lks_tally.specs.Rows.{rows_of, head_before}
use Rattle.lks_tally.proofs.Steps.{take_next, heads_length, mul_more, others_heads}

-- the place of vote i in heads
pub heads_at : (q : Ballot) (blocks : List (List ℕ)) (votes : List Vote) (i : ℕ) (v : Vote) → i < length votes
    → v ≡ get_or votes i v
    → get_or (heads q blocks votes) i [] ≡ running (is_second q.kind) (key_for q v.voter) blocks
heads_at q blocks [] i v within at = absurd (omega arith)
heads_at q blocks (x ∷ votes) zero v within at =
    ap (λ y. running (is_second q.kind) (key_for q y.voter) blocks) (sym at)
heads_at q blocks (x ∷ votes) (suc i) v within at = heads_at q blocks votes i v (omega arith) at

pub heads_next : (q : Ballot) (blocks : List (List ℕ)) (votes : List Vote) (i : ℕ) (v : Vote) → i < length votes
    → v ≡ get_or votes i v
    → heads q blocks (take (i + 1) votes)
    ≡ heads q blocks (take i votes) ++ running (is_second q.kind) (key_for q v.voter) blocks ∷ []
heads_next q blocks votes i v within at =
    ap (heads q blocks) (take_more votes i v within ∙ ap (λ y. take i votes ++ y ∷ []) (sym at))
    ∙ map-append (λ x. running (is_second q.kind) (key_for q x.voter) blocks) (take i votes) (v ∷ [])

-- while a row is begun there is room
pub pushing_fits : (votes b i len before now : ℕ) → len ≡ b * votes + i → i < votes → votes * (b + 1) ≤ before
    → before ≤ now → len < now
pushing_fits votes b i len before now far within room kept = omega (arith, mul_more votes b, mul_comm votes b)

pub mul_next : (i x : ℕ) → (i + 1) * x ≡ i * x + x
mul_next i x = ap (λ k. k * x) (add-one i) ∙ suc-mul i x

-- one vote more in a count
pub count_next : {X : Type 0} (p : X → Bool) (xs : List X) (i n : ℕ) (x : X) → n ≡ count_by p (take i xs)
    → i < length xs → x ≡ get_or xs i x
    → (passes : Bool) → passes ≡ p x → cond passes (n + 1) n ≡ count_by p (take (i + 1) xs)
count_next p xs i n x so_far within at true passes =
    ap (λ k. k + 1) so_far ∙ sym (count_by_more_yes p xs i x within (ap p (sym at) ∙ sym passes))
count_next p xs i n x so_far within at false passes =
    so_far ∙ sym (count_by_more_no p xs i x within (ap p (sym at) ∙ sym passes))

-- a vote is for a copy with another block in place by its hash over the blocks before and that one
pub trial_agrees : (q : Ballot) (blocks : List (List ℕ)) (b : ℕ) (block hash : List ℕ) (v : Vote) (found : Bool)
    → b < length blocks
    → hash ≡ running (is_second q.kind) (key_for q v.voter) (take b blocks ++ block ∷ [])
    → found ≡ is_hash (slice_get v.hashes b) hash
    → found ≡ agrees q (set blocks b block) b v
trial_agrees q blocks b block hash v found within hash_is found_is =
    found_is ∙ ap (is_hash (slice_get v.hashes b))
    (hash_is ∙ ap (running (is_second q.kind) (key_for q v.voter)) (sym (take_more_set blocks b block within)))

-- a chain over the first blocks goes on by the next
pub link_last : (second : Bool) (key last block result : List ℕ) (kind : Bool) (blocks : List (List ℕ)) (k b : ℕ)
    → kind ≡ second
    → last ≡ running second key (take k blocks) → k ≡ b → result ≡ linked kind last block
    → result ≡ running second key (take b blocks ++ block ∷ [])
link_last second key last block result kind blocks k b kind_is last_is done result_is =
    result_is ∙ (λ i. linked (kind_is i) (last_is i) block) ∙ sym (running_more second key (take k blocks) block)
    ∙ ap (λ n. running second key (take n blocks ++ block ∷ [])) done

pub link_next : (second : Bool) (key last block result : List ℕ) (kind : Bool) (blocks : List (List ℕ)) (k : ℕ)
    → kind ≡ second
    → last ≡ running second key (take k blocks) → slice_get blocks k ≡ Some block → result ≡ linked kind last block
    → result ≡ running second key (take (k + 1) blocks)
link_next second key last block result kind blocks k kind_is last_is block_is result_is =
    link_last second key last block result kind blocks k k kind_is last_is refl result_is
    ∙ ap (running second key) (sym (take_next blocks k block block_is))

-- links of two turns
pub cost_sum : (votes first then last start now next : ℕ) → first ≤ then →
    then ≤ last → now ≡ start + votes * (then - first)
    → next ≡ now + votes * (last - then) → next ≡ start + votes * (last - first)
cost_sum votes first then last start now next rises rises_more so_far on =
    let sum : last - first ≡ (then - first) + (last - then) = omega arith in
    omega (arith, ap (λ n. votes * n) sum, mul-add votes (then - first) (last - then))

module _ (q : Ballot) (blocks : List (List ℕ)) (votes : List Vote) where
  pub rows_length : (n : ℕ) → length (rows_of q blocks votes n) ≡ n * length votes
  rows_length zero = omega arith
  rows_length (suc n) =
      length-append (rows_of q blocks votes n) (heads q (take (n + 1) blocks) votes)
      ∙ omega (arith, rows_length n, heads_length q (take (n + 1) blocks) votes, suc-mul n (length votes))

  pub rows_more : (n : ℕ)
      → rows_of q blocks votes (n + 1) ≡ rows_of q blocks votes n ++ heads q (take (n + 1) blocks) votes
  rows_more n = ap (rows_of q blocks votes) (add-one n)

  -- rows begin with those of fewer blocks
  pub rows_split : (n m : ℕ) → n ≤ m
      → (more : List (List ℕ)) × (rows_of q blocks votes m ≡ rows_of q blocks votes n ++ more)
  rows_split n zero fewer =
      let none : zero ≡ n = omega arith in
      ([], ap (rows_of q blocks votes) none ∙ sym (append-nil (rows_of q blocks votes n)))
  rows_split n (suc m) fewer = elim (cases_lt m n) [
    | inl last ↦
        let all : suc m ≡ n = omega arith in
        ([], ap (rows_of q blocks votes) all ∙ sym (append-nil (rows_of q blocks votes n)))
    | inr before ↦
        let row = heads q (take (m + 1) blocks) votes in
        let front = rows_split n m before in
        (front.0 ++ row, ap (λ rows. rows ++ row) front.1 ∙ append_assoc (rows_of q blocks votes n) front.0 row)
  ]

  pub rows_take : (n m : ℕ) → n ≤ m → take (n * length votes) (rows_of q blocks votes m) ≡ rows_of q blocks votes n
  rows_take n m fewer =
      let split = rows_split n m fewer in
      ap (take (n * length votes)) split.1
      ∙ take_at (rows_of q blocks votes n) split.0 (n * length votes) (rows_length n)

  -- the row of block b stands behind those before it
  pub row_at : (b m : ℕ) → b < m
      → take (length votes) (drop (b * length votes) (rows_of q blocks votes m))
      ≡ heads q (take (b + 1) blocks) votes
  row_at b m within =
      let row = heads q (take (b + 1) blocks) votes in
      let split = rows_split (b + 1) m (omega arith) in
      let whole : rows_of q blocks votes m ≡ rows_of q blocks votes b ++ (row ++ split.0) =
      split.1 ∙ ap (λ rows. rows ++ split.0) (rows_more b) ∙ append_assoc (rows_of q blocks votes b) row split.0 in
      ap (λ rows. take (length votes) (drop (b * length votes) rows)) whole
      ∙ ap (take (length votes))
      (drop_at (rows_of q blocks votes b) (row ++ split.0) (b * length votes) (rows_length b))
      ∙ take_at row split.0 (length votes) (heads_length q (take (b + 1) blocks) votes)

  pub row_is : (hashes found : List (List ℕ)) (n b : ℕ) → hashes ≡ rows_of q blocks votes n → b < n
      → found ≡ take (length votes) (drop (b * length votes) hashes) → found ≡ heads q (take (b + 1) blocks) votes
  row_is hashes found n b are within found_is =
      found_is ∙ ap (λ hs. take (length votes) (drop (b * length votes) hs)) are ∙ row_at b n within

  -- the voters against, by the row of a block
  pub against_is : (hashes found : List (List ℕ)) (n b : ℕ) → hashes ≡ rows_of q blocks votes n → b < n
      → found ≡ take (length votes) (drop (b * length votes) hashes)
      → others b votes found ≡ voters_against q votes blocks b
  against_is hashes found n b are within found_is =
      ap (others b votes) (row_is hashes found n b are within found_is) ∙ others_heads q votes blocks b

  pub rows_within : (hashes : List (List ℕ)) (n b : ℕ) → hashes ≡ rows_of q blocks votes n → b ≤ n
      → b * length votes ≤ length hashes
  rows_within hashes n b are within =
      let below : b * length votes ≤ n * length votes = mul-le-mul_right (length votes) within in
      omega (arith, below, ap length are, rows_length n)

  pub row_within : (hashes : List (List ℕ)) (n b : ℕ) → hashes ≡ rows_of q blocks votes n → b < n
      → b * length votes + length votes ≤ length hashes
  row_within hashes n b are within =
      let below : suc b * length votes ≤ n * length votes = mul-le-mul_right (length votes) (omega arith) in
      omega (arith, below, suc-mul b (length votes), ap length are, rows_length n)

  -- a vote's running hash after block b, in these rows or longer ones
  pub head_at : (hashes more : List (List ℕ)) (n b i : ℕ) (v : Vote) → hashes ≡ rows_of q blocks votes n ++ more → b < n
      → i < length votes → v ≡ get_or votes i v
      → get_or hashes (b * length votes + i) [] ≡ running (is_second q.kind) (key_for q v.voter) (take (b + 1) blocks)
  head_at hashes more n b i v are within place at =
      let front = rows_of q blocks votes b in
      let row = heads q (take (b + 1) blocks) votes in
      let split = rows_split (b + 1) n (omega arith) in
      let whole : hashes ≡ front ++ (row ++ (split.0 ++ more)) =
      are ∙ ap (λ rows. rows ++ more) (split.1 ∙ ap (λ rows. rows ++ split.0) (rows_more b))
      ∙ append_assoc (front ++ row) split.0 more
      ∙ append_assoc front row (split.0 ++ more) in
      let here : i < length row = omega (arith, heads_length q (take (b + 1) blocks) votes) in
      ap (λ hs. get_or hs (b * length votes + i) []) whole
      ∙ ap (λ k. get_or (front ++ (row ++ (split.0 ++ more))) (k + i) []) (sym (rows_length b))
      ∙ get_or-append-add front (row ++ (split.0 ++ more)) i []
      ∙ get_or_append_left row (split.0 ++ more) [] i here
      ∙ heads_at q (take (b + 1) blocks) votes i v place at

  -- a vote's running hash before block b, in these rows or longer ones
  pub head_before_is : (hashes more : List (List ℕ)) (n b i : ℕ) (v : Vote)
      → hashes ≡ rows_of q blocks votes n ++ more → b ≤ n
      → i < length votes → v ≡ get_or votes i v
      → head_before q v.voter (length votes) hashes b i ≡ running (is_second q.kind) (key_for q v.voter) (take b blocks)
  head_before_is hashes more n zero i v are fewer within at = refl
  head_before_is hashes more n (suc b) i v are fewer within at =
      let later : eqb (suc b) 0 ≡ false = ne_eqb (suc b) 0 (λ none. absurd (omega (arith, none))) in
      let above : (suc b - 1) * length votes ≡ b * length votes = ap (λ k. k * length votes) (sub-one (suc b)) in
      ap (λ t. cond t (key_for q v.voter) (get_or hashes ((suc b - 1) * length votes + i) [])) later
      ∙ ap (λ k. get_or hashes (k + i) []) above
      ∙ head_at hashes more n b i v are fewer within at
      ∙ ap (λ k. running (is_second q.kind) (key_for q v.voter) (take k blocks)) (add-one b)

  -- what a trial finds of a vote
  pub trial_is : (hashes : List (List ℕ)) (n from b i : ℕ) (v : Vote) (second found : Bool) (head block hash : List ℕ)
      → hashes ≡ rows_of q blocks votes n → from ≤ n → b < length blocks → i < length votes → v ≡ get_or votes i v
      → second ≡ is_second q.kind
      → head ≡ head_before q v.voter (length votes) hashes from i
      → ((key : List ℕ) → head ≡ running second key (take from blocks)
      → hash ≡ running second key (take b blocks ++ block ∷ []))
      → found ≡ is_hash (slice_get v.hashes b) hash → found ≡ agrees q (set blocks b block) b v
  trial_is hashes n from b i v second found head block hash are fewer inside within at kind_is head_is linked_to
      found_is =
      let key = key_for q v.voter in
      let before : head ≡ running second key (take from blocks) =
      head_is ∙ head_before_is hashes [] n from i v (are ∙ sym (append-nil (rows_of q blocks votes n))) fewer within at
      ∙ ap (λ s. running s key (take from blocks)) (sym kind_is) in
      let after : hash ≡ running (is_second q.kind) key (take b blocks ++ block ∷ []) =
      linked_to key before ∙ ap (λ s. running s key (take b blocks ++ block ∷ [])) kind_is in
      trial_agrees q blocks b block hash v found inside after found_is

  -- how far rows have come, where the next one is begun
  pub pushing_length : (hashes : List (List ℕ)) (b i : ℕ)
      → hashes ≡ rows_of q blocks votes b ++ heads q (take (b + 1) blocks) (take i votes)
      → i ≤ length votes → length hashes ≡ b * length votes + i
  pushing_length hashes b i are within =
      ap length are ∙ length-append (rows_of q blocks votes b) (heads q (take (b + 1) blocks) (take i votes))
      ∙ omega (arith, rows_length b, heads_length q (take (b + 1) blocks) (take i votes), length-take-le i votes within)

  -- the next hash of a row
  pub pushing : (second : Bool) (hashes items : List (List ℕ)) (head block hash : List ℕ) (b i : ℕ) (v : Vote)
      → second ≡ is_second q.kind → slice_get blocks b ≡ Some block
      → hashes ≡ rows_of q blocks votes b ++ heads q (take (b + 1) blocks) (take i votes) → i < length votes
      → v ≡ get_or votes i v
      → head ≡ head_before q v.voter (length votes) hashes b i → hash ≡ linked second head block
      → items ≡ hashes ++ hash ∷ []
      → items ≡ rows_of q blocks votes b ++ heads q (take (b + 1) blocks) (take (i + 1) votes)
  pushing second hashes items head block hash b i v kind_is block_is are within at head_is hash_is items_are =
      let row = heads q (take (b + 1) blocks) (take i votes) in
      let before : head ≡ running (is_second q.kind) (key_for q v.voter) (take b blocks) =
      head_is ∙ head_before_is hashes row b b i v are (omega arith) within at in
      let after : hash ≡ running (is_second q.kind) (key_for q v.voter) (take (b + 1) blocks) =
      link_next (is_second q.kind) (key_for q v.voter) head block hash second blocks b kind_is before block_is
      hash_is in
      items_are ∙ (λ j. are j ++ after j ∷ [])
      ∙ append_assoc (rows_of q blocks votes b) row
      (running (is_second q.kind) (key_for q v.voter) (take (b + 1) blocks) ∷ [])
      ∙ ap (λ hs. rows_of q blocks votes b ++ hs) (sym (heads_next q (take (b + 1) blocks) votes i v within at))
