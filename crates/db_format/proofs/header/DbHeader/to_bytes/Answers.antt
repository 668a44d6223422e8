use Rattle.std.proofs.Common.{arith}
use Rattle.db_format.proofs.HeaderLaws.{fields, bytes_by, header_spelled, header_written}
use Rattle.db_format.proofs.WordLaws.{put_none, put_more, put_all}
use Rattle.db_format.proofs.header.DbHeader.to_bytes.Goals as goal

pub returns-clause-is : goal.returns-clause-is
unfolding bytes_by fields
returns-clause-is c =
    let name = put_none _ 32 _ c.begin_with-bytes.ensures.front in
    let attributes = put_more _ _ 32 34 _ _ _ name c.put_u16.ensures.front in
    let version = put_more _ _ 34 36 _ _ _ attributes c.put_u16-2.ensures.front in
    let creation_date = put_more _ _ 36 40 _ _ _ version c.put_u32.ensures.front in
    let modification_date = put_more _ _ 40 44 _ _ _ creation_date c.put_u32-2.ensures.front in
    let backup_date = put_more _ _ 44 48 _ _ _ modification_date c.put_u32-3.ensures.front in
    let modification_number = put_more _ _ 48 52 _ _ _ backup_date c.put_u32-4.ensures.front in
    let app_info = put_more _ _ 52 56 _ _ _ modification_number c.put_u32-5.ensures.front in
    let sort_info = put_more _ _ 56 60 _ _ _ app_info c.put_u32-6.ensures.front in
    let kind = put_more _ _ 60 64 _ _ _ sort_info c.put_u32-7.ensures.front in
    let creator = put_more _ _ 64 68 _ _ _ kind c.put_u32-8.ensures.front in
    let seed = put_more _ _ 68 72 _ _ _ creator c.put_u32-9.ensures.front in
    let next_list = put_more _ _ 72 76 _ _ _ seed c.put_u32-10.ensures.front in
    let entry_count = put_more _ _ 76 78 _ _ _ next_list c.put_u16-3.ensures.front in
    λ database has. header_spelled database c.args.self.now _ (put_all _ 78 _ _ entry_count (omega arith)) has

pub returns-clause-written : goal.returns-clause-written
returns-clause-written c = header_written c.args.self.now _ (record {
  header = record {
    attributes = c.put_u16.ensures.small;
    version = c.put_u16-2.ensures.small;
    creation_date = c.put_u32.ensures.small;
    modification_date = c.put_u32-2.ensures.small;
    backup_date = c.put_u32-3.ensures.small;
    modification_number = c.put_u32-4.ensures.small;
    kind = c.put_u32-7.ensures.small;
    creator = c.put_u32-8.ensures.small;
    seed = c.put_u32-9.ensures.small;
  };
  app_info = c.put_u32-5.ensures.small;
  sort_info = c.put_u32-6.ensures.small;
  entry_count = c.put_u16-3.ensures.small;
}) c.begin_with-bytes.ensures.valid (returns-clause-is c)
