use Rattle.std.proofs.Common.{◌∙◌, sym, Some, None}
use Rattle.indexmap.proofs.CallerLemmas.{insert_entry-new}
use Rattle.cilk_types.proofs.NewNames.{name_found, kept, put_last}
use Rattle.cilk_types.proofs.naming.insert_new.Goals as goal

pub returns-in-Some-clause-twice : goal.returns-in-Some-clause-twice
returns-in-Some-clause-twice g c = name_found c.args.name.now c.args.map.now.entries (Some c.in-Some.field-0.now) c.in-Some.ensures.value

pub returns-in-Some-clause-entries : goal.returns-in-Some-clause-entries
returns-in-Some-clause-entries g c = kept c.args.name.now _ _ (name_found c.args.name.now c.args.map.now.entries (Some c.in-Some.field-0.now) c.in-Some.ensures.value)

pub returns-in_ok-insert-in-None-clause-twice : goal.returns-in_ok-insert-in-None-clause-twice
returns-in_ok-insert-in-None-clause-twice g c = name_found c.args.name.now c.args.map.now.entries None c.in-None.ensures.value

pub returns-in_ok-insert-in-None-clause-entries : goal.returns-in_ok-insert-in-None-clause-entries
returns-in_ok-insert-in-None-clause-entries g c =
    put_last c.args.name c.args.value c.args.map.now.entries c.insert.new.self.entries
    (name_found c.args.name.now c.args.map.now.entries None c.in-None.ensures.value)
    (c.in_ok-insert-in-None.ensures.entries ∙ insert_entry-new _ c.args.map.now c.args.name c.args.value (sym c.in-None.ensures.value))
