-- What callers cite is in Laws: each way undoes the other. TableLaws has tables by place, WriteLaws the loops that write them.
pub mod Laws
mod TableLaws
mod WriteLaws
