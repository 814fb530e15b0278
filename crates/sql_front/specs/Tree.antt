-- The grammar of a query, a type for each rule and a constructor for each way that it allows. What a rule allows to follow
-- wraps what stands before it, so that each type is a query's beginning up to there, and a list is nested to its left.
--
--     query  := select {UNION ALL select} [ORDER BY key {, key}] [LIMIT number] [OPTION ( opt {, opt} )] [;]
--     select := SELECT [DISTINCT] items FROM table {more} [WHERE cond] [GROUP BY col {, col}]
--     items  := * | item {, item}
--     item   := col | COUNT ( * ) | SUM ( col ) | MIN ( col ) | MAX ( col )
--     table  := name [[AS] name]
--     more   := , table | JOIN table ON cond | LEFT SEMI JOIN table ON cond | LEFT ANTI JOIN table ON cond
--     cond   := conj {OR conj}
--     conj   := unit {AND unit}
--     unit   := NOT unit | ( cond ) | side op side
--     side   := col | [-] number | text
--     op     := = | <> | < | <= | > | >=
--     col    := name [. name]
--     key    := (col | number) [ASC | DESC]
--     opt    := BLOCK number | PARTS number | SORT number | USE BLOCK | USE INDEX | USE MERGE | USE HASH
use Rattle.std.specs.Prelude.{ℕ, List}
use Rattle.sql_front.specs.declared.words.Aggregate.{Aggregate}
use Rattle.sql_front.specs.declared.words.Comparison.{Comparison}
use Rattle.sql_front.specs.declared.words.Method.{Method}
use Rattle.sql_front.specs.declared.words.Setting.{Setting}

-- a name in small letters, and its place
pub record NameAt : Type 0 where
  pub letters : List ℕ
  pub at : ℕ

pub record NumberAt : Type 0 where
  pub value : ℕ
  pub at : ℕ

-- col := name [. name]
pub data Column : Type 0 where
  plain : NameAt → Column
  dotted : NameAt → NameAt → Column

-- side := col | [-] number | text, with the place of the `-`
pub data Side : Type 0 where
  named : Column → Side
  positive : NumberAt → Side
  negative : ℕ → NumberAt → Side
  quoted : List ℕ → Side

mutual
  -- unit := NOT unit | ( cond ) | side op side, with the place of the operator
  pub data UnitTree : Type 0 where
    negation : UnitTree → UnitTree
    group : CondTree → UnitTree
    compare : Side → Comparison → ℕ → Side → UnitTree

  -- conj := unit {AND unit}
  pub data ConjTree : Type 0 where
    one_unit : UnitTree → ConjTree
    and_unit : ConjTree → UnitTree → ConjTree

  -- cond := conj {OR conj}
  pub data CondTree : Type 0 where
    one_conj : ConjTree → CondTree
    or_conj : CondTree → ConjTree → CondTree

-- item := col | COUNT ( * ) | SUM ( col ) | MIN ( col ) | MAX ( col ), with the places of `*` and of the aggregate's word
pub data Item : Type 0 where
  bare_item : Column → Item
  count_item : ℕ → Item
  fold_item : Aggregate → ℕ → Column → Item

-- table := name [[AS] name]
pub data FromTable : Type 0 where
  bare : NameAt → FromTable
  renamed : NameAt → NameAt → FromTable
  renamed_as : NameAt → NameAt → FromTable

-- JOIN | LEFT SEMI JOIN | LEFT ANTI JOIN, with the places of the words that are names elsewhere
pub data Join : Type 0 where
  inner : Join
  semi : ℕ → ℕ → Join
  anti : ℕ → ℕ → Join

-- select := SELECT [DISTINCT] items FROM table {more} [WHERE cond] [GROUP BY col {, col}]
mutual
  -- {select UNION ALL}, with the places of UNION and ALL
  pub data Start : Type 0 where
    at_first : Start
    union_all : Group → ℕ → ℕ → Start

  -- SELECT [DISTINCT], with the place of SELECT
  pub data Select : Type 0 where
    all_rows : Start → ℕ → Select
    distinct : Start → ℕ → Select

  -- item {, item}
  pub data ItemList : Type 0 where
    first_item : Select → Item → ItemList
    next_item : ItemList → Item → ItemList

  -- items := * | item {, item}, with the place of `*`
  pub data Items : Type 0 where
    every_column : Select → ℕ → Items
    listed : ItemList → Items

  -- FROM | ,
  pub data Before : Type 0 where
    from : Items → Before
    comma : From → Before

  -- table {more}
  pub data From : Type 0 where
    table : Before → FromTable → From
    joined : From → Join → FromTable → CondTree → From

  -- [WHERE cond]
  pub data Where : Type 0 where
    no_where : From → Where
    some_where : From → CondTree → Where

  -- GROUP BY col {, col}
  pub data Columns : Type 0 where
    first_column : Where → Column → Columns
    next_column : Columns → Column → Columns

  -- [GROUP BY col {, col}]
  pub data Group : Type 0 where
    no_group : Where → Group
    group_by : Columns → Group

-- col | number
pub data KeyOf : Type 0 where
  by_column : Column → KeyOf
  by_number : NumberAt → KeyOf

-- key := (col | number) [ASC | DESC]
pub data Key : Type 0 where
  unsaid : KeyOf → Key
  ascending : KeyOf → Key
  descending : KeyOf → Key

-- ORDER BY key {, key}
pub data Keys : Type 0 where
  first_key : Group → Key → Keys
  next_key : Keys → Key → Keys

-- [ORDER BY key {, key}]
pub data Order : Type 0 where
  no_order : Group → Order
  order_by : Keys → Order

-- [LIMIT number]
pub data Limited : Type 0 where
  no_limit : Order → Limited
  limit : Order → NumberAt → Limited

-- opt := BLOCK number | PARTS number | SORT number | USE BLOCK | USE INDEX | USE MERGE | USE HASH, with the places of the words
pub data Opt : Type 0 where
  sized : Setting → ℕ → NumberAt → Opt
  used : ℕ → Method → ℕ → Opt

-- OPTION ( opt {, opt}
pub data Options : Type 0 where
  first_option : Limited → Opt → Options
  next_option : Options → Opt → Options

-- [OPTION ( opt {, opt} )]
pub data Optioned : Type 0 where
  no_options : Limited → Optioned
  options : Options → Optioned

-- [;]
pub data Query : Type 0 where
  bare_query : Optioned → Query
  ended_query : Optioned → Query
